-- The definition of a slide, and what holds of it.
pub use Rattle.arena_geo.specs.Vectors
pub use Rattle.arena_geo.specs.Bounds
pub use Rattle.arena_geo.specs.Boxes
pub use Rattle.box_trace.specs.Axes
pub use Rattle.box_trace.specs.Steps
pub use Rattle.box_trace.specs.Traces
pub use Rattle.box_trace.specs.Walls
pub mod Displacements
pub mod Slides
pub mod SlideBodies
pub mod Hits
pub mod Changes
pub mod Laws
pub mod FreeWays
