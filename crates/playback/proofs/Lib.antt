-- Lemmas on an event that closed a frame, on what the frame gave out, and on packets that are moved.
pub mod Closed
pub mod Moving
