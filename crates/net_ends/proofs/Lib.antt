pub mod Chains
pub mod Ports
pub mod Stillness
pub mod Resting
pub mod Completing
pub mod Bounding
pub mod Laws
