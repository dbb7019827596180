mod Showing
mod Sending
mod Coming
mod Taking
mod Losing
mod Ordering
mod Making
pub mod Laws
