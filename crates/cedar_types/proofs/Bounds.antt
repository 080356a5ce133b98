-- Bounds of types, and their laws.
pub mod Steps
pub mod Symmetric
pub mod Transitive
pub mod Upper
pub mod WellFormed
pub mod Laws
