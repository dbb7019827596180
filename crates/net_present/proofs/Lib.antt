mod Tells
mod StreamsNow
mod Places
mod Feeds
mod Events
mod Follows
pub mod Laws
