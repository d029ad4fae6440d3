pub mod Events
pub mod Replays
pub mod Sequences
pub mod Verdicts
