pub mod Words
pub mod Lines
pub mod Verdicts
pub mod Recorded
pub mod Sequences
pub mod Finding
pub mod Answer
pub mod Ends
