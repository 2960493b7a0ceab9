pub mod Answers
pub mod Preorder
pub mod Waiting
pub mod Zeros
