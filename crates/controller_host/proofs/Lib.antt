pub mod Bounds
pub mod Past
