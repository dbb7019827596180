mod Standing
mod Choosing
mod Telling
mod Resting
mod Leading
mod Stepping
pub mod Laws
