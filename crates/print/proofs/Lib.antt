-- Laws that several proofs cite.
pub mod Accepted
pub mod Padding
pub mod Pushing
pub mod Visiting
