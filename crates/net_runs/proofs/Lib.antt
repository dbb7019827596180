pub mod Lasting
pub mod Lossless
pub mod Runs
pub mod Laws
