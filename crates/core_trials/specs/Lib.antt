-- The commands of the tests, and the seats that they are given to.
pub use Rattle.core_machine.specs.Cores
pub use Rattle.trial_outcomes.specs.Staying
pub use Rattle.trial_outcomes.specs.Errand
pub mod ErrandCommands
pub mod Hands
