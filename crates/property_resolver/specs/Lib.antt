pub mod Causes
pub mod Missing
pub mod Outcome
pub mod Work
pub mod Spreads
pub mod Joined
