-- The laws of node records and of the walk; those that callers cite come first.
pub mod Children
pub mod Copies
pub mod Resuming
pub mod Walking
mod Once
mod Covers
mod Reclaiming
