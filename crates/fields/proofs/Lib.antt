-- Laws that several proofs cite, and what a caller of this crate goes by.
pub mod Siblings
pub mod Fits
pub mod Spell
