-- The laws of the table: what its cells say of the tree that it holds, and what a change of them does to it. Those that callers cite come first.
pub mod Behind
pub mod Counting
pub mod Frames
pub mod Moves
pub mod Remembering
pub mod Unique
pub mod Ways
pub mod Words
mod Focus
mod Links
mod Changes
mod Spares
mod Effects
mod Sides
mod Relocating
mod Valuing
mod Removing
mod Forgetting
mod Adding
mod Kids
mod Loading
mod Jobs
