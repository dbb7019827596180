pub mod Length
pub mod Fits
pub mod Ranges
pub mod Grammar
pub mod Reading
pub mod Refusals
pub mod Writing
pub mod Laws
