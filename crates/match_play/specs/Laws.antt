-- What holds of all matches.
use Rattle.std.specs.Prelude.{◌≡◌, ℕ, ◌*◌, List, length, Some, is_some, sum_by, count_by}
use Rattle.std.specs.List.{range_with_len}
use Rattle.entity_recs.specs.declared.effect.Entry.{Entry}
use Rattle.arena_map.specs.Maps.{MapView, IsMap, delay_of}
use Rattle.packet_read.specs.declared.arrival.Arrival.{Arrival}
use Rattle.plain_server.specs.RecordsById.{opening}
use Rattle.plain_server.specs.Frames.{AreRight, journals_of, state_played}
use Rattle.demo_make.specs.GeneratedMap.{generated_map}
use Rattle.demo_make.specs.GeneratedFrames.{IsInRange, generated_frames, generated_text}
use Rattle.demo_lines.specs.Bytes.{map_of}
use Rattle.out_text.specs.Collecting.{frames_of}
use Rattle.out_text.specs.Journals.{dids}
use Rattle.out_text.specs.Output.{lines_in, out_text, IsOutput}
use Rattle.match_play.specs.declared.limits.TheConstants.{MOST_MATCH_FRAMES}
use Rattle.match_play.specs.declared.totals.Totals.{Totals}
use Rattle.match_play.specs.Totals.{totals_of}
use Rattle.match_play.specs.TotalsOfLines.{AreTotalsOf, score_of_slot}
use Rattle.match_play.specs.Matches.{AreRightSoFar, AreInOrderSoFar}

-- so many frames were run, each player joined, each moved once in each frame, and nothing was refused
pub record HasCounts (players frames : ℕ) (t : Totals) : Type 0 where
  pub frames_are : t.frames ≡ frames
  pub joins : t.joins ≡ players
  pub moves : t.moves ≡ players * frames
  pub refused : t.refused ≡ 0

-- whichever right journals the frames of a generated recording have, its counts are these
abbrev pub CountsAreKnown : Type 0
CountsAreKnown =
    (seed players frames : ℕ) (journals : List (List Entry)) → IsInRange players frames
    → AreRight generated_map 0 (opening generated_map) (generated_frames seed players frames) journals
    → HasCounts players frames (totals_of generated_map (generated_frames seed players frames) journals)

-- right journals of a match in the order of arrival are those of the plain server
abbrev pub OrderLeavesOneMatch : Type 0
OrderLeavesOneMatch =
    (seed players : ℕ) (journals : List (List Entry)) → AreRightSoFar seed players journals
    → AreInOrderSoFar seed players journals
    → journals ≡ journals_of generated_map 0 (opening generated_map) (generated_frames seed players (length journals))

-- journals of a match of so many frames with so many workers: there is one right journal a frame, and with one worker
-- each has the moves in the order of arrival
pub record AreOfMatch (seed players frames workers : ℕ) (journals : List (List Entry)) : Type 0 where
  pub count : length journals ≡ frames
  pub right : AreRightSoFar seed players journals
  pub order : workers ≡ 1 → AreInOrderSoFar seed players journals

-- the generated recording, written out, has the map and the frames of a match; journals of a match make an output of
-- it, and those that an output spells are of a match
pub record IsPlayedAsWritten (seed players frames : ℕ) : Type 0 where
  pub map_is : map_of (generated_text seed players frames) ≡ Some generated_map
  pub frames_are : frames_of (generated_text seed players frames) ≡ generated_frames seed players frames
  pub outputs : (workers : ℕ) (journals : List (List Entry)) → AreOfMatch seed players frames workers journals
      → IsOutput workers (generated_text seed players frames) (out_text (generated_text seed players frames) journals)
  pub journals : (workers : ℕ) (text : List ℕ) → IsOutput workers (generated_text seed players frames) text
      → AreOfMatch seed players frames workers (dids text)

-- a match plays what its recording would, written out
abbrev pub MatchesArePlayedAsWritten : Type 0
MatchesArePlayedAsWritten =
    (seed players frames : ℕ) → IsInRange players frames → IsPlayedAsWritten seed players frames

-- how many frames a match has at the most
pub record LimitsAreKnown : Type 0 where
  pub frames : MOST_MATCH_FRAMES ≡ 2000

-- the totals of frames are those of the lines that are printed for them, with one journal a frame
abbrev pub TotalsAreOfTheOutput : Type 0
TotalsAreOfTheOutput =
    (map : MapView) (frames : List (List Arrival)) (journals : List (List Entry)) → length journals ≡ length frames
    → AreTotalsOf (lines_in (Some map) frames journals) (totals_of map frames journals)

-- the score of frames is the sum of the scores of those that are clients after the last of them, slot by slot
abbrev pub ScoresAreOfTheClients : Type 0
ScoresAreOfTheClients =
    (map : MapView) (frames : List (List Arrival)) (journals : List (List Entry)) → IsMap map
    → (totals_of map frames journals).score
    ≡ sum_by (score_of_slot (state_played map 0 (opening map) frames journals)) (range_with_len 0 64)

-- how many of these ids are those of items of a map: an item returns after some delay
abbrev pub items_of : MapView → List ℕ → ℕ
items_of map ids = count_by (λ id. is_some (delay_of map id)) ids

-- with right journals the items of the totals are the items of the map among the ids that all entries got: a player that
-- was hit isn't one, and each item that was taken is
abbrev pub ItemsAreOfTheMap : Type 0
ItemsAreOfTheMap =
    (map : MapView) (frames : List (List Arrival)) (journals : List (List Entry)) → IsMap map
    → AreRight map 0 (opening map) frames journals
    → (totals_of map frames journals).items
    ≡ sum_by (λ (j : List Entry). sum_by (λ (e : Entry). items_of map e.reply.got) j) journals
