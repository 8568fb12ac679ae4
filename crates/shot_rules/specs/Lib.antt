-- The definitions of shots.
pub use Rattle.arena_geo.specs.Vectors
pub use Rattle.arena_geo.specs.Bounds
pub use Rattle.arena_geo.specs.Boxes
pub use Rattle.entity_recs.specs.Records
pub use Rattle.entity_recs.specs.Bodies
pub use Rattle.entity_recs.specs.Commands
pub use Rattle.trigger_rules.specs.Touching
pub mod Targets
pub mod Meetings
pub mod Shots
pub mod Laws
