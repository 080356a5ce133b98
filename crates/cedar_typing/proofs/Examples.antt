-- The examples compute to the results that are stated.
pub mod World
pub mod Rules
pub mod Evaluation
pub mod Values
pub mod Promises
pub mod Premises
pub mod TypedCopies
pub mod Refinement
pub mod Permissive
pub mod Composition
pub mod PolicySoundness
pub mod Conforming
pub mod LeftOpen
pub mod NeededPremises
pub mod CopyPremises
