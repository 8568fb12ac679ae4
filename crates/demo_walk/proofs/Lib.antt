-- Lemmas on recordings of players that walk on a map.
pub mod Schedules
pub mod Steps
pub mod Texts
pub mod FramesKept
pub mod Pieces
pub mod PlaceParts
pub mod Sites
pub mod Joining
pub mod Moving
pub mod Accepted
pub mod PlacesKnown
