pub mod BestLaws
pub mod Changes
pub mod Counting
pub mod Outcomes
