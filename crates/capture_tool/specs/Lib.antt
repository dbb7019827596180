pub mod Seen
pub mod Text
pub mod Names
pub mod Listing
pub mod Follows
pub mod Outcome
pub mod Pcap
pub mod PcapFollows
