mod Bases
mod Others
mod Only
mod Happening
mod Going
mod Ending
mod Control
mod Talking
pub mod Laws
