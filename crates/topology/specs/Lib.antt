pub mod Network
pub mod Status
