-- The definition of a player's move, and what holds of it.
pub use Rattle.arena_geo.specs.Vectors
pub use Rattle.arena_geo.specs.Bounds
pub use Rattle.arena_geo.specs.Boxes
pub use Rattle.entity_recs.specs.Records
pub use Rattle.entity_recs.specs.Bodies
pub mod Intents
pub mod Velocities
pub mod Ranges
pub mod Walks
pub mod Moves
pub mod Laws
pub mod FreeMoves
