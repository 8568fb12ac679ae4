-- A frame that a game closes: it has few packets, and is counted.
use Rattle.std.proofs.Common.{ℕ, ◌<◌, Some}
use Rattle.move_journal.specs.Logs.{JournalView}
use Rattle.frame_phases.specs.declared.frame_out.FrameOut.{FrameOut}
use Rattle.demo_lines.specs.declared.event.Event.{Event}
use Rattle.playback.specs.Playbacks.{Course, IsGivenIf, GoesOn, IsReady}
use Rattle.playback.proofs.Closed.{run_of, ready_to_close, few_packets, few_frames, given_by}
use Rattle.match_play.specs.Totals.{HasFew}
use Rattle.match_play.proofs.Few.{few_in_frame}

module _ (workers : ℕ) (old new : Course) (e : Event) (journal : JournalView) (goes : GoesOn workers old new e (Some journal.entries)) where
  -- there were few frames before it
  pub early : IsReady old e → old.server.frames < 100000
  early ready = few_frames workers old new journal.entries (run_of workers old new e journal.entries goes) (ready_to_close workers old new e journal.entries goes ready)

  module _ (out : FrameOut) (given : IsGivenIf old.server old.opened (Some journal.entries) out) where
    -- it has few joins, moves and refusals
    pub few_of_each : IsReady old e → HasFew out.received.lists journal.entries
    few_of_each ready =
        let run = run_of workers old new e journal.entries goes in
        let t = old.server in
        few_in_frame t.map t.frames t.state run.arrivals out.received.lists journal.entries (few_packets workers old new journal.entries run (ready_to_close workers old new e journal.entries goes ready))
        (given_by workers old new journal.entries out run given).lists_are run.runs.few
