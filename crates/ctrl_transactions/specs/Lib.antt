pub mod Requests
pub mod Transactions
