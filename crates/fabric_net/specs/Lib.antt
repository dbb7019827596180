pub mod Standing
pub mod Asking
pub mod NetView
pub mod Offering
pub mod Telling
