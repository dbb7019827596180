pub mod Commands
pub mod Counts
pub mod Made
pub mod Refusals
