-- Laws that the proofs of this crate cite.
pub mod Weighing
pub mod Placing
pub mod Putting
