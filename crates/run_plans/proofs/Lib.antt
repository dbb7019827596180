mod Lists
mod Ends
mod Kept
mod PlanEnds
mod Forms
mod LaidOut
mod Users
mod Passed
mod Refused
mod Unrefused
pub mod Laws
