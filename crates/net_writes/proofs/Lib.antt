mod Hops
mod Entries
mod Writing
mod Ways
mod Routes
mod Leading
pub mod Laws
