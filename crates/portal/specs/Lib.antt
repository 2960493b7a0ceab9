-- What a portal's calls hand back, and what they keep from a reader.
pub mod Portal
pub mod Secrecy
pub mod Bound
pub mod Standing
pub mod Written
pub mod Budgets
