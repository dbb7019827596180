mod KeptEnds
mod CallLemmas
mod Spellings
mod Conditions
pub mod Laws
