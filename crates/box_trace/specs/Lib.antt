-- The definition of the trace of a box.
pub use Rattle.arena_geo.specs.Vectors
pub use Rattle.arena_geo.specs.Bounds
pub use Rattle.arena_geo.specs.Boxes
pub mod Steps
pub mod Axes
pub mod Traces
pub mod Windows
pub mod Meetings
pub mod Walls
pub mod Laws
