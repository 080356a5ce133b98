-- Parts of a store: the ids that a request reaches, the slice of their entries, and evaluation over
-- a part in place of the whole store.
pub mod Reach
pub mod Soundness
pub mod Policies
pub mod TypedCopies
pub mod Validation
pub mod Passing
pub mod Surveys
pub mod Nesting
pub mod Examples
pub mod NeededPremises
