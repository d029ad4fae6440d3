pub mod Best
pub mod Command
pub mod Entry
pub mod Expiry
pub mod Going
pub mod Outcome
