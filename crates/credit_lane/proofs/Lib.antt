pub mod Prefixes
pub mod Steps
pub mod Putting
pub mod Taking
pub mod Seats
pub mod Ends
pub mod Laws
pub mod Produced
