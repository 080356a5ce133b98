-- Inference answers exactly as the rules do.
pub mod Parts
pub mod Leaves
pub mod Eager
pub mod Operators
pub mod ShortCircuit
pub mod OpenTest
pub mod Conditional
pub mod Induction
