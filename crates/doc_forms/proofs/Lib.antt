pub mod Elements
pub mod Members
