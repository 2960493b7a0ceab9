pub mod Answers
pub mod Block
pub mod Header
pub mod Input
pub mod Pieces
