pub mod Leaving
pub mod Plan
pub mod Ports
pub mod Refusal
pub mod State
pub mod Step
