-- Lemmas on shots.
pub mod Stoppers
pub mod Nearest
pub mod Swept
pub mod Ways
pub mod Walks
pub mod Hits
pub mod Wounds
pub mod Conditions
pub mod Along
