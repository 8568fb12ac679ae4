-- Lemmas on the action of an arena.
pub mod Overlapping
pub mod Leaping
pub mod Keeping
pub mod Rising
pub mod Effects
pub mod Shooting
pub mod OfItsMap
