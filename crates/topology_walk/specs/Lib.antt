pub mod Nodes
pub mod Probes
pub mod Answers
pub mod Walks
pub mod Discovery
pub mod Finding
pub mod Whole
