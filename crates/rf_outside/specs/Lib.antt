pub mod Causes
pub mod Bytes
pub mod Played
pub mod Pieces
