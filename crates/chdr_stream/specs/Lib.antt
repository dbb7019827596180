pub mod Window
pub mod Capture
pub mod Stream
pub mod FirstFault
pub mod Places
pub mod Calls
pub mod Laws
pub mod Rest
