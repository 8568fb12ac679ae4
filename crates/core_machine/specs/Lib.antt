-- The pure core in code: how its plain fields are the machine of the definitions.
pub use Rattle.core_steps.specs.Cells
pub use Rattle.core_steps.specs.Nodes
pub use Rattle.core_steps.specs.Points as CorePoints
pub use Rattle.core_steps.specs.Reads
pub use Rattle.core_steps.specs.Held
pub use Rattle.core_steps.specs.Steps
pub use Rattle.core_steps.specs.Stands
pub use Rattle.core_steps.specs.Machine
pub use Rattle.core_steps.specs.Calls
pub use Rattle.core_seats.specs.Logs
pub use Rattle.core_seats.specs.Refusals
pub use Rattle.core_seats.specs.PlayerReads
pub use Rattle.core_seats.specs.Shown
pub use Rattle.core_seats.specs.Going
pub use Rattle.core_seats.specs.Sound
pub use Rattle.core_seats.specs.Nexts
pub use Rattle.core_seats.specs.Ready
pub mod ThingReads
pub mod Points
pub mod SeatLogs
pub mod Seats
pub mod Tables
pub mod Cores
pub mod ListRooms
pub mod WordsLeft
pub mod Stepping
pub mod Plain
