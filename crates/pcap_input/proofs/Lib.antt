pub mod ReadLemmas
pub mod RestLemmas
pub mod FileLemmas
pub mod CutLemmas
pub mod Laws
