pub mod Stages
pub mod Lone
pub mod Runs
pub mod Laws
pub mod Control
pub mod Carrying
pub mod Talks
