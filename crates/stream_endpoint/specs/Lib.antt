pub mod Counts
pub mod Epochs
pub mod Flow
pub mod InEnd
pub mod Orders
pub mod OutEnd
pub mod Receiver
pub mod Sender
