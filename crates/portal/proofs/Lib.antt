-- Laws of the portal's call.
pub mod Counted
pub mod Handed
pub mod Secret
pub mod Bounds
pub mod Standing
pub mod Written
pub mod Budgets
