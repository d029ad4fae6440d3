pub mod Firewall
pub mod Learning
pub mod Ports
