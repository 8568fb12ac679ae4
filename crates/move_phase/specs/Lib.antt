-- The definitions of the moves that each worker serves.
pub use Rattle.move_journal.specs.Merges
pub use Rattle.shared_moves.specs.Moves
pub use Rattle.plain_server.specs.RecordsById
pub use Rattle.plain_server.specs.Moving
pub mod Serving
pub mod Running
pub mod Sharing
pub mod Starting
pub mod Turns
pub mod Laws
