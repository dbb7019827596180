pub mod Planned
pub mod Rule
pub mod Plays
pub mod Sides
pub mod Held
pub mod Fields
pub mod Law
