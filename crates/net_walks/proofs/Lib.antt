mod Backs
mod Nodes
mod Entries
mod Hops
mod Walking
mod Returning
mod Talking
mod Probing
mod Following
pub mod Laws
