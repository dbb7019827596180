pub mod Settled
pub mod Talking
