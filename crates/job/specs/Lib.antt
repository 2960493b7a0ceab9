-- What the contracts of this crate cite besides the rules.
pub mod Hanging
pub mod Parts
pub mod Plan
pub mod Answer
pub mod FollowOn
