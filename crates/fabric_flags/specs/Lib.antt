pub mod FlagView
pub mod Set
