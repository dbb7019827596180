pub mod CommandLemmas
pub mod Lengths
