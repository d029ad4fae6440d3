pub mod Changes
pub mod Paths
pub mod Rounds
pub mod Routing
pub mod Table
pub mod Ways
