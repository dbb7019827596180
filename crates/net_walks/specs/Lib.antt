pub mod Links
pub mod Nodes
pub mod Entries
pub mod Walks
pub mod Ways
pub mod Probes
pub mod Returns
pub mod Talks
