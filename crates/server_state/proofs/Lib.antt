-- Lemmas on the state before the first frame and after a tick.
pub mod Openings
