-- Environments that agree on what an expression reads have one answer.
pub mod Agreement
pub mod Operators
pub mod Induction
pub mod Judgments
pub mod Laws
pub mod Environments
pub mod Flags
pub mod Actions
pub mod Conditions
