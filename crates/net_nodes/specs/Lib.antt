pub mod Budget
pub mod FirstPlaces
pub mod Laws
pub mod Operations
pub mod Perform
pub mod Switch
pub mod Table
