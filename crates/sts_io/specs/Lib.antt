pub mod Adapted
pub mod Causes
pub mod Failures
pub mod Memory
pub mod Taken
