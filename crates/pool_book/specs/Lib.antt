pub mod Blocks
pub mod Change
pub mod Names
pub mod Order
pub mod Places
pub mod Pools
