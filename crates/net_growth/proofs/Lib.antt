mod States
mod Presents
mod Growing
mod Taking
mod Sending
pub mod Laws
