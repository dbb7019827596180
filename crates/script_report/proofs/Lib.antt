pub mod EachLemmas
pub mod PrintLemmas
