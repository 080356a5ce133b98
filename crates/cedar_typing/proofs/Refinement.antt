-- Strict is a refinement of Permissive.
pub mod Bounds
pub mod Parts
pub mod Eager
pub mod Tables
pub mod Calls
pub mod Formed
pub mod Induction
pub mod Checks
pub mod PartialBounds
pub mod PartialTables
pub mod PartialInduction
