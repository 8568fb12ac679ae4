-- When moves come to their end.
pub use Rattle.core_steps.specs.Nodes
pub use Rattle.core_steps.specs.Points
pub use Rattle.core_steps.specs.Reads
pub use Rattle.core_steps.specs.Held
pub use Rattle.core_steps.specs.Stands
pub use Rattle.core_steps.specs.Machine
pub use Rattle.core_steps.specs.Calls
pub use Rattle.core_seats.specs.Going
pub use Rattle.core_seats.specs.Nexts
pub use Rattle.core_seats.specs.Sound
pub mod StepsLeft
pub mod Progress
pub mod Laws
