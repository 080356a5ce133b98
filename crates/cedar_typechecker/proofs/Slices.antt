-- Slices: an expression without level errors evaluates over a part of a store that holds the slice
-- as over the whole store.
pub mod Ids
pub mod Stores
pub mod Same
pub mod Operands
pub mod Conditional
pub mod Accesses
pub mod Binary
pub mod Collections
pub mod ChainSteps
pub mod ChainValues
pub mod ChainRecords
pub mod Chains
pub mod Leaves
pub mod Forms
pub mod Induction
pub mod TargetLevels
pub mod Expressions
pub mod Loaded
pub mod TypedCopies
pub mod Conditions
pub mod Policies
pub mod Validation
pub mod Passing
pub mod Surveys
pub mod Nesting
pub mod Examples
