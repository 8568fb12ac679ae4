-- The definitions of a server over events.
pub use Rattle.demo_lines.specs.Bytes
pub use Rattle.demo_lines.specs.Kinds
pub use Rattle.move_journal.specs.Logs
pub use Rattle.move_phase.specs.Serving
pub use Rattle.plain_server.specs.RecordsById
pub use Rattle.plain_server.specs.Frames
pub use Rattle.plain_server.specs.Replies
pub use Rattle.frame_phases.specs.Scores
pub use Rattle.frame_phases.specs.Servers
pub use Rattle.frame_phases.specs.FramesRun
pub mod Playbacks
