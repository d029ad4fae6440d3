pub mod Hosting
pub mod Numbering
pub mod Undoing
