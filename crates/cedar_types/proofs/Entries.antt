-- Vectors in strictly ascending order, as sets.
pub mod Ascending
pub mod Basics
pub mod Intersections
pub mod Searches
pub mod Unions
