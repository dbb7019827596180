pub mod CommandText
pub mod Fits
pub mod Limits
pub mod Names
pub mod Text
pub mod Words
