mod BlockLemmas
mod CountLemmas
mod HistoryLemmas
mod KeptLemmas
pub mod Laws
mod LineLemmas
mod MovedLemmas
mod ProducerLemmas
pub mod SampleLemmas
mod SizeLemmas
mod StrideLemmas
mod WithinLemmas
