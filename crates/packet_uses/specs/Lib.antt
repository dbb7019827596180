pub mod Respelled
pub mod Collected
pub mod Answered
