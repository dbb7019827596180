pub mod Lasting
pub mod Forms
pub mod Flows
pub mod Closing
pub mod Beginning
pub mod Going
