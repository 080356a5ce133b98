-- The scope's first tests, and environments that stand for others.
pub mod Depth
pub mod SameTests
pub mod Decide
pub mod Booleans
pub mod PrincipalTests
pub mod ActionTests
pub mod LeftOut
pub mod Copies
pub mod Laws
