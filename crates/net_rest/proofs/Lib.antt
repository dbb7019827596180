mod Keeping
mod Resting
pub mod Laws
