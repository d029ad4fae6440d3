pub mod Draws
pub mod Generated
pub mod Ring
pub mod Script
