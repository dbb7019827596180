mod Alike
mod Committing
mod Fits
pub mod Laws
mod Standing
