-- What a step and a run promise.
pub mod Steps
