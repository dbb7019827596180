pub mod Firsts
pub mod Layouts
pub mod Refusals
pub mod Changes
pub mod Planned
pub mod RunRefusals
pub mod Laws
