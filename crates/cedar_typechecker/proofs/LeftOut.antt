-- Facts about environments whose action the scope does not admit.
pub mod Sets
pub mod Declared
pub mod Demands
pub mod Asked
pub mod PrincipalTests
pub mod ActionTests
pub mod Quiet
pub mod Visits
