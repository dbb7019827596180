pub mod Exits
pub mod Lookups
pub mod NodeView
pub mod Packets
pub mod Shapes
pub mod Sites
pub mod WiresView
