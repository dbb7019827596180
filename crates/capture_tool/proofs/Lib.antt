pub mod Streams
pub mod FollowLemmas
pub mod ReaderLemmas
pub mod OutcomeLemmas
pub mod PcapLemmas
pub mod PcapReaderLemmas
