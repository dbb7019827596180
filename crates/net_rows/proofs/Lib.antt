mod Possible
pub mod Laws
