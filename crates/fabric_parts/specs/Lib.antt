pub mod BlockView
pub mod Blocks
pub mod Queues
pub mod Ready
pub mod Sources
pub mod StreamView
pub mod Streams
