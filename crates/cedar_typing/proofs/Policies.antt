-- The check of a policy, in one environment and in all.
pub mod Check
pub mod Verdicts
pub mod Tallies
pub mod ChecksLeft
pub mod EachEnvironment
pub mod Trees
pub mod Expressions
