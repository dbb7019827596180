pub mod Arriving
pub mod Held
pub mod Laws
pub mod Peaks
