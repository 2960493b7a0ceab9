-- Laws of what one record does; those that callers cite come first.
pub mod Board
pub mod Remembered
pub mod Doing
pub mod Contexts
pub mod Stepping
mod Evaluation
mod Assigned
mod Moved
mod Touched
mod Inserted
mod Entered
mod Digits
