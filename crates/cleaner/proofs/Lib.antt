-- What the proofs of this crate share, and what a caller goes by.
pub mod Located
pub mod Handed
pub mod Halfway
