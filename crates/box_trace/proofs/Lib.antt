-- Lemmas on traces.
pub mod Parts
pub mod Reaches
pub mod Spans
pub mod Ranges
pub mod Overlaps
pub mod Firsts
pub mod FirstMeetings
pub mod Traces
pub mod WallBoxes
pub mod HavingWalls
pub mod Stops
pub mod HitAxes
pub mod Insides
pub mod Straight
