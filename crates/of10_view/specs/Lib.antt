pub mod Lending
pub mod Lent
pub mod Parts
pub mod Seen
pub mod Stream
