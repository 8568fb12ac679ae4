-- The definitions of recordings of players that walk on a map.
pub use Rattle.demo_lines.specs.InTurn
pub use Rattle.demo_lines.specs.Bytes
pub use Rattle.bot_ways.specs.PlanTexts
pub use Rattle.demo_make.specs.GeneratedFrames
pub mod Places
pub mod WalkedFrames
pub mod Remaining
pub mod Laws
pub mod Accepting
