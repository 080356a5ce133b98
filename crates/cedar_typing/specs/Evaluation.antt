-- Evaluation of expressions, defined independently of typing.
pub mod Equality
pub mod World
pub mod Outcomes
pub mod Eval
pub mod Conformance
