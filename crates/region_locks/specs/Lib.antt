-- A pass, and what each call does to it.
pub mod NextCalls
pub mod PassLists
pub mod Following
pub mod Quitting
pub use Rattle.shared_moves.specs.InHand
pub use Rattle.shared_moves.specs.Closing
pub use Rattle.shared_moves.specs.Moves
pub use Rattle.ruled_words.specs.NewPasses
pub use Rattle.ruled_words.specs.Sights
pub use Rattle.ruled_words.specs.Starts
pub use Rattle.ruled_words.specs.Going
pub use Rattle.ruled_words.specs.Holders
pub use Rattle.ruled_words.specs.WordSteps
pub use Rattle.ruled_words.specs.Passes
pub use Rattle.ruled_words.specs.Hands
pub use Rattle.ruled_words.specs.Loads
pub use Rattle.core_steps.specs.Cells
pub use Rattle.core_steps.specs.Nodes
pub use Rattle.core_steps.specs.Points as CorePoints
pub use Rattle.core_steps.specs.Reads
pub use Rattle.core_steps.specs.Held
pub use Rattle.core_steps.specs.Steps
pub use Rattle.core_steps.specs.Stands
pub use Rattle.core_steps.specs.Machine
pub use Rattle.core_seats.specs.Going as Stepping
pub use Rattle.core_seats.specs.Sound
pub use Rattle.core_seats.specs.Nexts
