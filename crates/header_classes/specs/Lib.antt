pub mod Cell
pub mod Interval
pub mod Order
pub mod Rewrite
pub mod Size
pub mod Trials
