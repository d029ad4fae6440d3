pub mod Alike
pub mod Places
pub mod Stepping
pub mod Minimal
pub mod Ascending
pub mod Pairs
pub mod Partition
pub mod Existing
