pub mod Sided
pub mod Supply
pub mod Drains
pub mod Telling
pub mod Running
pub mod WholeRuns
pub mod PlainBooks
