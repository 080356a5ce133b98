-- Views of the program's values as plain data.
pub mod Marks
pub mod Parts
pub mod Typed
pub mod Fields
