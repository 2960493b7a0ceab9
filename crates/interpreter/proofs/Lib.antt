-- Laws of the step and of the run.
pub mod Commands
pub mod Looped
