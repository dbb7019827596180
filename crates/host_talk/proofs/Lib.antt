mod Firsts
mod Settling
mod Settled
mod Built
mod Talked
pub mod Laws
