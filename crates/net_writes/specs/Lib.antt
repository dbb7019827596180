pub mod Crossings
pub mod Writing
pub mod Talks
pub mod Routes
