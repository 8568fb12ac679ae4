-- Lemmas on moves.
pub mod Rooms
pub mod Grounds
pub mod Walking
pub mod Speeds
pub mod Reaching
pub mod WholeMoves
pub mod Ending
pub mod Insides
pub mod Agreeing
pub mod Looking
pub mod Slows
pub mod Farther
pub mod Standings
pub mod Climbing
pub mod FreeMoves
