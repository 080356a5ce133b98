pub mod Reads
pub mod Flags
pub mod TypedOnce
pub mod Conditions
pub mod Examples
