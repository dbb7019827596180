pub mod Steps
pub mod Packets
pub mod Writes
pub mod Planned
pub mod Routing
