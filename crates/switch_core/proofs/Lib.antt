pub mod Actions
pub mod Few
pub mod Lasting
pub mod Sends
pub mod Stays
pub mod Tells
pub mod Valid
