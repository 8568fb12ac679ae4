-- The index over boxes: which of them it must not miss.
pub use Rattle.arena_geo.specs.Bounds
pub use Rattle.arena_geo.specs.Boxes
pub mod Places
pub mod Strips
