-- Laws of the queue of places and of parts of a slice. Assumes nothing.
pub mod Orders
pub mod Cuts
