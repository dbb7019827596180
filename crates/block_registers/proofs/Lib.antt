mod BitLemmas
mod CallLemmas
pub mod Laws
mod RegisterLemmas
mod RequestLemmas
pub mod SlotLemmas
