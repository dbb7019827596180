pub mod Made
pub mod Rest
pub mod Complete
