-- `&&` and `||` do not go wrong.
pub mod Conjunction
pub mod Disjunction
