pub mod Prints
pub mod Report
