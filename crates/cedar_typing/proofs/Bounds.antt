-- A value of a type has each bound of that type.
pub mod Values
pub mod Strict
pub mod Kept
pub mod Attributes
pub mod Lists
