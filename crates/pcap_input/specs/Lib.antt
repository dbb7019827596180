pub mod Header
pub mod Record
pub mod Frame
pub mod File
pub mod Reader
pub mod Rest
pub mod Calls
