-- Laws of the run.
pub mod Started
pub mod Answered
pub mod Secret
pub mod Begins
pub mod Followed
pub mod Storing
pub mod Taken
pub mod Histories
pub mod JobHistories
pub mod Budgets
pub mod Children
pub mod Admitted
