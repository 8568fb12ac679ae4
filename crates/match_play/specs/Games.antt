-- The game of a match: what an event leaves of it.
use Rattle.std.specs.Prelude.{◌≡◌, ℕ, List, [], ◌∷◌, ◌++◌, Option, Some, None}
use Rattle.move_journal.specs.Logs.{JournalView}
use Rattle.arena_map.specs.Maps.{MapView}
use Rattle.packet_read.specs.declared.arrival.Arrival.{Arrival}
use Rattle.plain_server.specs.Frames.{received_in}
use Rattle.frame_phases.specs.Servers.{ServerView}
use Rattle.frame_phases.specs.Scores.{score_in}
use Rattle.demo_lines.specs.declared.event.Event.{Event}
use Rattle.playback.specs.Playbacks.{Course, new_course, GoesOn, entries_if}
use Rattle.match_play.specs.declared.totals.Totals.{Totals}
use Rattle.match_play.specs.Totals.{no_totals, totals_with}

-- how far its events were played, what the frames come to so far, and their journals
pub record GameView : Type 0 where
  pub course : Course
  pub totals : Totals
  pub journals : List JournalView

-- before the first event
abbrev pub new_game : MapView → GameView
new_game map = record { course = new_course map; totals = no_totals; journals = [] }

-- the journals with that of the frame that was closed, if one was
abbrev pub journals_after : List JournalView → Option JournalView → List JournalView
journals_after before None = before
journals_after before (Some journal) = before ++ journal ∷ []

-- the totals with those of a frame with these packets and this journal
abbrev pub totals_with_frame : Totals → ServerView → ServerView → List Arrival → JournalView → Totals
totals_with_frame before old new arrivals journal =
    totals_with before (received_in old.map old.frames old.state arrivals).lists journal.entries
    (score_in new.state.records)

-- the totals after the frame that was open was closed with this journal, if one was
abbrev pub totals_after : Totals → ServerView → ServerView → Option (List Arrival) → Option JournalView → Totals
totals_after before old new opened None = before
totals_after before old new None (Some journal) = before
totals_after before old new (Some arrivals) (Some journal) = totals_with_frame before old new arrivals journal

-- the game after an event: the frame that it closed is counted, and its journal was put last
pub record Plays (workers : ℕ) (old new : GameView) (e : Event) : Type 0 where
  pub closed : Option JournalView
  pub goes : GoesOn workers old.course new.course e (entries_if closed)
  pub kept : new.journals ≡ journals_after old.journals closed
  pub totals : new.totals ≡ totals_after old.totals old.course.server new.course.server old.course.opened closed
