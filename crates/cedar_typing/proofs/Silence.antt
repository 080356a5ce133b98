-- Silence: in Strict and in Permissive, a failure that is not cut has an error, if nothing is
-- unknown.
pub mod Parts
pub mod Eager
pub mod Branches
pub mod Tables
pub mod Attributes
pub mod Names
pub mod Operators
pub mod Induction
pub mod Checks
pub mod Policies
