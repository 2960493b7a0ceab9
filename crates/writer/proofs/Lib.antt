-- Laws of what is stored in an area, and of the walk over a tree.
pub mod Area
pub mod Walked
pub mod Tally
pub mod Stores
pub mod Lifted
pub mod Checked
pub mod Secret
