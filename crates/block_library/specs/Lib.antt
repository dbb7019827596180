pub mod Blocks
pub mod Lines
pub mod Memory
pub mod Places
pub mod Producer
pub mod Samples
pub mod Within
