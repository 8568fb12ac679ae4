-- Lemmas on lists whose keys rise, and on the logs of the passes.
pub mod Rising
pub mod Filters
pub mod Places
pub mod Serving
pub mod Running
pub mod NewPasses
pub mod Sharing
pub mod RoomCounts
pub mod StartWorlds
pub mod Journals
pub mod ArenaMoves
pub mod Reversing
pub mod Turns
pub mod InTurn
