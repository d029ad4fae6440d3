pub mod Joined
pub mod Tables
pub mod Told
pub mod Undone
