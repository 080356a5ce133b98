pub mod Texts
pub mod Functions
pub mod Calls
pub mod TextExamples
