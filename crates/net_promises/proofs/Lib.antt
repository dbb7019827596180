mod Promising
mod Holding
mod Arriving
mod Falling
mod Hopping
mod Peaking
pub mod Laws
