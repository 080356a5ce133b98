pub mod Mentions
pub mod Counts
pub mod Pairs
