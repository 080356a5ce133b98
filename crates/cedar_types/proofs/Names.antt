-- Names and ids: their order, their equality, and sets of them.
pub mod Paths
pub mod Unions
pub mod Ids
pub mod Members
