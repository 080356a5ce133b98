-- Lemmas of the definitions, which a reader can skip and still believe the rest.
pub mod Layers
pub mod TreeSame
pub mod Same
pub mod Comparisons
pub mod Decided
pub mod ShapeOnly
pub mod Accesses
