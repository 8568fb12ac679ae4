-- The definitions of recordings.
pub use Rattle.arena_map.specs.Maps
pub use Rattle.arena_map.specs.MapLines
pub use Rattle.arena_map.specs.Rules
pub use Rattle.arena_map.specs.Words as MapWords
pub use Rattle.arena_map.specs.Reading as MapReading
pub use Rattle.arena_map.specs.Spelling as MapSpelling
pub mod Packets
pub mod Words
pub mod Lines
pub mod Machines
pub mod Kinds
pub mod Known
pub mod Faults
pub mod Recording
pub mod Said
pub mod Bytes
pub mod Readings
pub mod Spelling
pub mod InTurn
pub mod Reads
pub mod Outcomes
pub mod Rest
pub mod Consumed
pub mod Laws
