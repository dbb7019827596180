pub mod Moved
pub mod PieceLemmas
