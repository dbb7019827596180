pub mod Present
pub mod Kept
pub mod StreamSteps
pub mod Onward
pub mod Fits
pub mod Laws
