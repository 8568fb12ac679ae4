-- What the actions that tests run do.
pub use Rattle.entity_recs.specs.Actions
pub mod Staying
pub mod Errand
