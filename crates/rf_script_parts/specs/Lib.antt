pub mod Entries
pub mod Lose
pub mod Net
pub mod Others
pub mod Pair
pub mod Scope
pub mod Value
pub mod Words
