mod Tests
mod Following
mod Settled
mod Trees
mod Star
mod Placing
mod Connecting
mod Routed
mod Beginning
mod Steps
mod Prepared
mod Runnable
mod Whole
pub mod Laws
