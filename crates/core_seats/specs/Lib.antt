-- The rules of an action's world, and what a seat does next by them.
pub use Rattle.box_strips.specs.Places as PlaceBits
pub use Rattle.box_strips.specs.Strips as BoxStrips
pub use Rattle.core_steps.specs.Cells
pub use Rattle.core_steps.specs.Nodes
pub use Rattle.core_steps.specs.Points as CorePoints
pub use Rattle.core_steps.specs.Reads
pub use Rattle.core_steps.specs.Held
pub use Rattle.core_steps.specs.Steps
pub use Rattle.core_steps.specs.Stands
pub use Rattle.core_steps.specs.Machine
pub mod Starts
pub mod PlayerReads
pub mod Logs
pub mod Refusals
pub mod Shown
pub mod NearRecords
pub mod NearKept
pub mod ThingBits
pub mod ThingStrips
pub mod Going
pub mod Sound
pub mod Nexts
pub mod Ready
pub mod Laws
