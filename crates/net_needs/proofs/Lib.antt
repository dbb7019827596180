mod Knowing
mod Entering
mod Ends
mod Hopping
mod Feeding
mod Staying
mod Counting
mod Sending
mod Needs
pub mod Laws
