pub mod Networks
pub mod Journal
pub mod Credit
pub mod Numbers
pub mod Losses
pub mod Blocks
pub mod Hosts
pub mod Plans
