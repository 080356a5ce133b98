-- Each node of a typed copy has a type, and the value of a node that evaluation reaches is of it.
pub mod Unbound
pub mod Typed
pub mod TypedInduction
pub mod Reached
pub mod Parts
pub mod Choices
pub mod Operands
pub mod Induction
pub mod Laws
pub mod Policies
