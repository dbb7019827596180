mod Paths
mod Places
mod Adding
mod Asking
mod Crossing
mod Splits
mod Along
mod Finding
