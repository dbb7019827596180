pub mod QueuesView
pub mod StreamsView
pub mod StreamFlags
pub mod StreamList
pub mod SitesView
pub mod BlocksView
pub mod Routed
pub mod Opened
