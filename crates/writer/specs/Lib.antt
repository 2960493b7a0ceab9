-- What the writer stores in an area, and what its functions promise.
pub mod Area
pub mod Nodes
pub mod Writes
pub mod Secrecy
