-- Examples of what evaluation reaches and of the types at nodes.
pub mod Reached
pub mod NodeTypes
pub mod NodeTypePremises
pub mod NodeTypeConclusions
