-- Lemmas on passes and their calls.
pub mod Following
pub mod Quitting
pub mod Stepping
pub mod NewSeats
pub mod Tried
pub mod Commits
pub mod Storing
