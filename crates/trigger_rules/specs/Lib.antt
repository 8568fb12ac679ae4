-- The definitions of touching.
pub use Rattle.arena_geo.specs.Bounds
pub use Rattle.arena_geo.specs.Boxes
pub use Rattle.entity_recs.specs.Kinds
pub use Rattle.entity_recs.specs.Records
pub use Rattle.entity_recs.specs.Bodies
pub use Rattle.entity_recs.specs.Touches
pub use Rattle.arena_map.specs.Maps
pub use Rattle.item_rules.specs.Items
pub mod Touching
pub mod Laws
