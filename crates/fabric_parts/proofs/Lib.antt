pub mod SourceLemmas
pub mod StreamLemmas
