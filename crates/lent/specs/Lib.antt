-- What a node record says, what it means that a tree stands in a table that may hold anything, and the walk that asks for it.
pub mod Lent
pub mod Stands
pub mod Children
