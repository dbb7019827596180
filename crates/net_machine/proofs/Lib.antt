mod PlaceLemmas
mod Shaping
mod Choosing
mod Threads
pub mod Laws
