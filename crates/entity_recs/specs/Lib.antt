-- The definitions of records, their bounds and their boxes.
pub use Rattle.arena_geo.specs.Vectors
pub use Rattle.arena_geo.specs.Bounds
pub use Rattle.arena_geo.specs.Boxes
pub use Rattle.arena_geo.specs.Regions
pub mod Kinds
pub mod Records
pub mod Bodies
pub mod Commands
pub mod Worlds
pub mod Histories
pub mod Actions
pub mod Laws
pub mod Moves
pub mod Touches
