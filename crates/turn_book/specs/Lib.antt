pub mod Places
pub mod History
pub mod Steps
pub mod Words
