pub mod Reached
pub mod NodeTypes
pub mod Examples
