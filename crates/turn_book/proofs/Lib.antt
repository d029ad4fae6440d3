pub mod Sums
pub mod Begins
pub mod Seats
pub mod Keeps
pub mod Slots
