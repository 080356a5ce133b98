-- Expressions: the syntax as plain trees, and the views of it.
pub mod Tree
pub mod View
pub mod TreeEq
pub mod Parts
pub mod ShapeOnly
pub mod Makers
