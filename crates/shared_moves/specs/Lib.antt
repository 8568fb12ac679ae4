-- Moves on threads: what a move leaves of its pass, where a gate is called, and what is closed.
pub mod InHand
pub mod Points
pub mod Moments
pub mod Closing
pub mod Moves
pub mod Runs
pub mod PassParts
pub use Rattle.ruled_words.specs.Sights
pub use Rattle.ruled_words.specs.Passes
pub use Rattle.ruled_words.specs.Holders
pub use Rattle.ruled_words.specs.Straight
pub use Rattle.ruled_words.specs.GivingUp
pub use Rattle.ruled_words.specs.NewPasses
pub use Rattle.core_steps.specs.Nodes
pub use Rattle.core_steps.specs.Points as CorePoints
pub use Rattle.core_steps.specs.Reads
pub use Rattle.core_steps.specs.Held
