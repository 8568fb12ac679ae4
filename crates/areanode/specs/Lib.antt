-- The definitions of the areanode tree: its cuts, its nodes, its leaves and the nodes above them.
pub use Rattle.arena_geo.specs.Bounds
pub use Rattle.arena_geo.specs.Boxes
pub use Rattle.arena_geo.specs.Regions
pub mod Words
pub mod Cuts
pub mod Trees
pub mod Depths
pub mod Areas
pub mod Rebuilt
pub mod LeafAreas
pub mod Sides
pub mod Laws
