mod Entering
mod Fitting
mod Nodes
mod Sides
mod Planned
mod Messages
mod Making
mod Feeding
mod Giving
mod Calm
mod Leading
mod Stilling
mod Unseen
mod Peaks
mod Staying
mod Beginning
pub mod Laws
