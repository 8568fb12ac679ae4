-- The definitions of world physics: items that return, the steps of lifts, and the tick of a frame.
pub use Rattle.arena_geo.specs.Vectors
pub use Rattle.arena_geo.specs.Bounds
pub use Rattle.arena_geo.specs.Boxes
pub use Rattle.entity_recs.specs.Kinds
pub use Rattle.entity_recs.specs.Records
pub use Rattle.entity_recs.specs.Bodies
pub use Rattle.arena_map.specs.MapLines
pub use Rattle.arena_map.specs.Positions
pub use Rattle.arena_map.specs.Maps
pub use Rattle.arena_map.specs.Validity
pub use Rattle.world_tree.specs.Live
pub mod Returns
pub mod LiftSteps
pub mod Ticks
pub mod Laws
pub mod Standing
