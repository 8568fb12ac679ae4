-- Lemmas on what a frame comes to, on what is shown, on replies and on scores.
pub mod Frames
pub mod Openings
pub mod Showing
pub mod Replying
pub mod Scoring
