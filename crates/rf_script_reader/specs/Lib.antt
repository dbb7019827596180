pub mod Acts
pub mod Block
pub mod Commands
pub mod Connect
pub mod Control
pub mod Read
pub mod Run
