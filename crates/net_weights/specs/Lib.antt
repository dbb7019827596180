pub mod Sums
pub mod Work
pub mod Charge
pub mod Journals
