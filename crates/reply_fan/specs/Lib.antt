-- The definitions of the replies to a list of slots.
pub use Rattle.world_tree.specs.Live
pub use Rattle.world_tree.specs.Worlds
pub use Rattle.snapshot_write.specs.Snapshots
pub mod Replies
