mod Derived
mod Graphs
mod Keys
pub mod Laws
mod Places
mod Ranks
mod Reached
mod Settled
mod Tables
