-- Schemas: the facts that they keep, list and allow.
pub mod Listings
pub mod Faultless
pub mod Memberships
pub mod Places
pub mod Faults
pub mod KeptEnvironments
pub mod Closures
pub mod References
pub mod ListedAttributes
pub mod Choices
