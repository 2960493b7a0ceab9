-- The laws of the run over lent node records; those that callers cite come first.
pub mod Secret
pub mod Children
pub mod Numbers
mod Runs
mod Following
mod Written
mod Surveying
