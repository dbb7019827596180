pub mod Shows
pub mod Acting
pub mod Making
