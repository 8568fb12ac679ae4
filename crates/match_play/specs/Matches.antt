-- The frames of a match, with their journals.
use Rattle.std.specs.Prelude.{◌≡◌, ℕ, ◌≤◌, List, length, map}
use Rattle.entity_recs.specs.declared.effect.Entry.{Entry}
use Rattle.move_journal.specs.Logs.{JournalView}
use Rattle.plain_server.specs.RecordsById.{opening}
use Rattle.plain_server.specs.Frames.{AreRight, AreInOrder, state_played}
use Rattle.frame_phases.specs.Servers.{ServerView, server_view}
use Rattle.demo_make.specs.GeneratedMap.{generated_map}
use Rattle.demo_make.specs.GeneratedFrames.{IsInRange, generated_frames}
use Rattle.match_play.specs.declared.limits.TheConstants.{MOST_MATCH_FRAMES}
use Rattle.match_play.specs.declared.totals.Totals.{Totals}
use Rattle.match_play.specs.Totals.{totals_of}
use Rattle.match_play.specs.Games.{GameView}

-- 1 to 64 players, and 1 to 2,000 frames
pub record IsMatch (players frames : ℕ) : Type 0 where
  pub in_range : IsInRange players frames
  pub few : frames ≤ MOST_MATCH_FRAMES

-- the entries of journals
abbrev pub entries_of : List JournalView → List (List Entry)
entries_of journals = map (λ (j : JournalView). j.entries) journals

-- each of these journals is right for its frame, from the first on
abbrev pub AreRightSoFar : ℕ → ℕ → List (List Entry) → Type 0
AreRightSoFar seed players journals =
    AreRight generated_map 0 (opening generated_map) (generated_frames seed players (length journals)) journals

-- each has the moves of its frame in the order of arrival
abbrev pub AreInOrderSoFar : ℕ → ℕ → List (List Entry) → Type 0
AreInOrderSoFar seed players journals =
    AreInOrder generated_map 0 (opening generated_map) (generated_frames seed players (length journals)) journals

-- the totals of the frames that have these journals
abbrev pub match_totals : ℕ → ℕ → List (List Entry) → Totals
match_totals seed players journals = totals_of generated_map (generated_frames seed players (length journals)) journals

-- the server of a match that has run the frames with these journals, one each
abbrev pub match_server : ℕ → ℕ → List (List Entry) → ServerView
match_server seed players journals =
    server_view generated_map
    (state_played generated_map 0 (opening generated_map) (generated_frames seed players (length journals)) journals)
    (length journals)

-- the game has the journal of each frame that its server has run, and no other: they are right, and with one worker in
-- the order of arrival
pub record HasEachJournal (seed players workers : ℕ) (g : GameView) : Type 0 where
  pub count : length g.journals ≡ g.course.server.frames
  pub server_is : g.course.server ≡ match_server seed players (entries_of g.journals)
  pub right : AreRightSoFar seed players (entries_of g.journals)
  pub order : workers ≡ 1 → AreInOrderSoFar seed players (entries_of g.journals)
