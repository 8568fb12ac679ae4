-- The definitions of journals, of runs, and of when a journal is right.
pub use Rattle.entity_recs.specs.Records
pub use Rattle.entity_recs.specs.Commands
pub use Rattle.entity_recs.specs.Worlds
pub use Rattle.entity_recs.specs.Histories
pub mod Logs
pub mod Validity
pub mod Lists
pub mod Merges
pub mod ByPlace
pub mod Laws
