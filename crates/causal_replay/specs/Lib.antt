pub mod AlikeHosts
pub mod Congruence
pub mod Going
pub mod Replay
pub mod Steps
