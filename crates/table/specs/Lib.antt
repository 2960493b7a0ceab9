-- What the node table's words spell, and what each function over them does to the tree that they hold.
pub mod Cells
pub mod Holds
pub mod Promises
pub mod Since
pub mod Steps
