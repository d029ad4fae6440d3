pub mod Field
pub mod Header
pub mod Match
pub mod Packet
pub mod Text
pub mod Wire
