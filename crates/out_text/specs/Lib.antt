-- The definitions of the output: its lines, the text of frames, and the journals that are read off a text.
pub use Rattle.edge_io.specs.Fields
pub use Rattle.edge_io.specs.Numbers
pub use Rattle.edge_io.specs.WholeLines
pub use Rattle.entity_recs.specs.Commands
pub use Rattle.entity_recs.specs.Worlds
pub use Rattle.entity_recs.specs.Histories
pub use Rattle.move_journal.specs.Logs
pub use Rattle.move_journal.specs.Merges
pub use Rattle.arena_map.specs.Maps
pub use Rattle.packet_read.specs.Reading as PacketReading
pub use Rattle.world_tree.specs.Live
pub use Rattle.client_ports.specs.States
pub use Rattle.client_ports.specs.Lists
pub use Rattle.client_ports.specs.Receiving
pub use Rattle.client_ports.specs.Frames as PacketFrames
pub use Rattle.plain_server.specs.RecordsById
pub use Rattle.plain_server.specs.Frames
pub use Rattle.plain_server.specs.Replies
pub use Rattle.plain_server.specs.Takers
pub use Rattle.demo_lines.specs.Bytes
pub use Rattle.demo_lines.specs.Spelling
pub use Rattle.snapshot_write.specs.Snapshots
pub use Rattle.snapshot_write.specs.Reading as SnapshotReading
pub mod Dids
pub mod OutLines
pub mod FrameLines
pub mod Printing
pub mod Printers
pub mod Journals
pub mod Reading
pub mod Ranges
pub mod Collecting
pub mod Output
pub mod Feeds
pub mod Transcripts
pub mod MatchLogs
pub mod OneTaker
pub mod ToLines
pub mod PacketLines
pub mod LastMoves
pub mod Laws
pub mod FedLaws
