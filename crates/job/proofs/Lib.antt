-- Laws that several proofs cite, and what a caller of this crate goes by.
pub mod Stack
pub mod Words
pub mod Fill
pub mod Ways
pub mod Scans
pub mod Answers
pub mod FollowOns
