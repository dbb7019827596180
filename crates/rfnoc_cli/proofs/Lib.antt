pub mod OutcomeLemmas
pub mod WordLemmas
pub mod Generating
