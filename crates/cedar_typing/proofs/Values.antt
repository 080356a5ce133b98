-- Values: equality, types and attributes.
pub mod Equality
pub mod Laws
pub mod Attributes
pub mod Tags
pub mod Membership
pub mod Ancestors
