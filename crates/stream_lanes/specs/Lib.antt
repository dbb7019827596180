pub mod Sides
pub mod Inside
pub mod Working
