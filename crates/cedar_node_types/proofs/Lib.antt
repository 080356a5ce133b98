pub mod NodeTypes
pub mod Examples
