mod Gathering
mod Leading
mod Moving
mod Coming
mod Following
mod Clearing
mod Blindness
mod Entering
mod Placing
mod Staying
mod Waiting
mod Beginning
mod Fronts
pub mod Laws
