pub mod PieceExamples
pub mod Pieces
pub mod Policies
