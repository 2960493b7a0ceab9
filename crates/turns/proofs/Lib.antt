-- Laws of one run that takes turns, and of what eight places show. Assumes nothing.
pub mod Turning
pub mod Places
pub mod Housing
