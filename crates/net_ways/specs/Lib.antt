pub mod Gather
pub mod Ways
pub mod Clear
pub mod Hops
pub mod Unseen
pub mod Entering
pub mod Standing
pub mod Beginning
