-- The definitions of the linked world: its records and lists, what its queries answer, and how they walk.
pub use Rattle.arena_geo.specs.Bounds
pub use Rattle.arena_geo.specs.Boxes
pub use Rattle.arena_geo.specs.Regions
pub use Rattle.areanode.specs.Words
pub use Rattle.areanode.specs.Trees
pub use Rattle.entity_recs.specs.Kinds
pub use Rattle.entity_recs.specs.Records
pub use Rattle.entity_recs.specs.Bodies
pub use Rattle.link_lists.specs.Pool
pub mod Live
pub mod Worlds
pub mod Queries
pub mod Nears
pub mod Walks
pub mod Laws
