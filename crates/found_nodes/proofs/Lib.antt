mod Growing
pub mod Laws
