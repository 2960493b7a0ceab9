-- Laws for walks by hand.
pub mod Walk
pub mod While
pub mod Relend
pub mod Locals
pub mod Slots
pub mod Big
pub mod Calls
pub mod Branch
