-- Lemmas on what a command does in an arena. `Lawful` has those that the action above cites as its laws.
pub mod Lawful
pub mod LyingOrMoving
pub mod OnMaps
pub mod Nearness
pub mod Flags
pub mod Props
