-- The lemmas of this crate.
pub mod RespellLemmas
pub mod CollectLemmas
pub mod AnswerLemmas
