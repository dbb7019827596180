pub mod Worlds
pub mod Causes
pub mod Books
pub mod WorldView
pub mod Runs
pub mod Quiet
pub mod Laws
