-- The definitions of recordings that are made from a number.
pub use Rattle.demo_lines.specs.Spelling
pub use Rattle.demo_lines.specs.Bytes
pub use Rattle.packet_read.specs.Spelling as PacketSpelling
pub use Rattle.packet_read.specs.Commands as PacketCommands
pub mod Words
pub mod GeneratedMap
pub mod GeneratedFrames
pub mod ResentFrames
pub mod LastWords
pub mod Remaining
pub mod Passing
pub mod Accepting
pub mod Repeating
pub mod Laws
