-- The queue of places, and slices of eight parts.
pub mod Queue
pub mod Pieces
