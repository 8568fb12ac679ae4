-- The definitions of this crate.
pub mod Views
pub mod Turns
pub mod Plays
pub mod Rounds
