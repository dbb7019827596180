pub mod StreamLemmas
pub mod ReasonLemmas
pub mod CaptureLemmas
pub mod FaultLemmas
pub mod CutLemmas
pub mod SameLemmas
pub mod RestLemmas
pub mod Laws
