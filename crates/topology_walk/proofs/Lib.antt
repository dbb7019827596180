mod Talking
mod Reading
mod Knowing
mod Asking
mod Probing
mod Adding
mod Counting
mod Finding
mod Agreeing
mod Belonging
mod Members
mod Alone
mod Whole
pub mod Laws
mod Discovering
