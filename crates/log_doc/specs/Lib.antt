pub mod Entries
pub mod Items
pub mod Log
pub mod Tokens
pub mod Written
