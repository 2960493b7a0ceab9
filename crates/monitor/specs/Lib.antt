-- What the run over a job's bytes promises.
pub mod Promises
pub mod Starting
pub mod Secrecy
pub mod FromRoot
pub mod Follow
pub mod Histories
pub mod Budgets
pub mod Children
