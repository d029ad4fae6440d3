pub mod Failing
pub mod Marking
