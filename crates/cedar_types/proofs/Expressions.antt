-- Views of expressions as trees.
pub mod PlacedTrees
pub mod Marks
pub mod ExtensionTables
pub mod SortedTables
pub mod Parts
