pub mod Messages
pub mod Made
pub mod Walking
pub mod Lawful
pub mod Laws
