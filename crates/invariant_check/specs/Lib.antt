pub mod Class
pub mod Network
pub mod Reach
pub mod Search
pub mod Stop
pub mod Turn
pub mod Verdict
pub mod Walk
