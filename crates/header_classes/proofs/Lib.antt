pub mod Intervals
pub mod Boxes
pub mod Headers
pub mod Cuts
pub mod Orders
pub mod Classes
pub mod Counts
pub mod Rewrites
pub mod Sizes
mod Firsts
