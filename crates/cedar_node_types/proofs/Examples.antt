-- The examples compute to the results that are stated.
pub mod Meeting
pub mod Reached
pub mod NodeTypes
pub mod NodeTypePremises
pub mod NodeTypeConclusions
