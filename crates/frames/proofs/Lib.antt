-- Laws that several proofs cite.
pub mod Answering
pub mod Coming
pub mod Putting
pub mod Settling
pub mod Walking
