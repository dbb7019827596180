mod Closing
mod Following
mod Keeping
mod Telling
mod Entering
mod Hopping
mod Ports
mod Fitting
mod Feeding
mod Staying
mod Beginning
pub mod Laws
