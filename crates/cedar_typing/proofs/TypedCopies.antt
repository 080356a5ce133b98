-- Typed copies evaluate as the expressions that they are copies of.
pub mod Same
pub mod Leaves
pub mod Choices
pub mod Operands
pub mod Induction
pub mod Filled
pub mod Laws
pub mod Unbound
pub mod Own
pub mod Policies
