pub mod Atoms
pub mod Cutting
pub mod Ddmin
pub mod Steps
