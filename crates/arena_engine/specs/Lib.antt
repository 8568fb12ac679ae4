-- The definitions of what the top call reads and writes.
pub use Rattle.demo_lines.specs.Known
pub use Rattle.demo_lines.specs.Recording
pub use Rattle.demo_lines.specs.Bytes
pub use Rattle.demo_lines.specs.Readings
pub use Rattle.demo_lines.specs.Spelling
pub use Rattle.arena_map.specs.Maps
pub use Rattle.client_ports.specs.States
pub use Rattle.client_ports.specs.Receiving
pub use Rattle.move_journal.specs.Logs
pub use Rattle.plain_server.specs.RecordsById
pub use Rattle.plain_server.specs.Frames
pub use Rattle.plain_server.specs.Replies
pub use Rattle.frame_phases.specs.Servers
pub use Rattle.move_phase.specs.Serving as ServingMoves
pub use Rattle.playback.specs.Playbacks
pub use Rattle.out_text.specs.OutLines
pub use Rattle.out_text.specs.FrameLines
pub use Rattle.out_text.specs.Journals
pub use Rattle.out_text.specs.Collecting
pub use Rattle.out_text.specs.Output as Outputs
pub use Rattle.out_text.specs.Feeds
pub use Rattle.out_text.specs.OneTaker
pub use Rattle.demo_make.specs.GeneratedMap
pub use Rattle.demo_make.specs.GeneratedFrames
pub use Rattle.demo_make.specs.ResentFrames
pub use Rattle.demo_walk.specs.WalkedFrames
pub use Rattle.match_play.specs.Matches
pub use Rattle.transcript_check.specs.Verdicts
pub use Rattle.transcript_check.specs.Audits
pub use Rattle.bot_ways.specs.Walks as BotWalks
pub use Rattle.bot_ways.specs.Ways as BotWays
pub use Rattle.bot_ways.specs.PlanTexts
pub mod Numbers
pub mod Statuses
pub mod Commands
pub mod Summaries
pub mod Laws
pub mod Endings
pub mod Making
pub mod Explained
pub mod Feedings
pub mod Games
pub mod StopOf
pub mod Stops
pub mod Output
pub mod Texts
pub mod PlayEnds
pub mod Progress
pub mod Reports
pub mod Serving
pub mod Played
pub mod Planned
pub mod Judgments
pub mod Checked
pub mod MapReads
pub mod Walked
pub mod Served
