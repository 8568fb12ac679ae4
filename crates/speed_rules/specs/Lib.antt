-- The definitions of the rules of a player's velocity.
pub use Rattle.arena_geo.specs.Vectors
pub use Rattle.arena_geo.specs.Roots
pub mod Measures
pub mod Rules
pub mod Wishes
pub mod Changes
pub mod Laws
pub mod Together
