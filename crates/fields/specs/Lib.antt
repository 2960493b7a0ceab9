-- What the contracts of this crate cite besides the rules.
pub mod Layout
pub mod Siblings
pub mod Fields
pub mod Fits
