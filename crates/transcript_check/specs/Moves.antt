-- The moves of a frame, taken in any order in which each player's are in the order sent.
use Rattle.std.specs.Prelude.{◌≡◌, ℕ, ◌==◌, ◌≤◌, Bool, false, not, List, [], ◌∷◌, ◌++◌, length, map as map_list, Option}
use Rattle.std.specs.List.{AllByRecursion}
use Rattle.entity_recs.specs.declared.rec.Rec.{Rec}
use Rattle.entity_recs.specs.declared.effect.Entry.{Entry}
use Rattle.entity_recs.specs.Commands.{Command}
use Rattle.entity_recs.specs.Histories.{entry_of, run}
use Rattle.move_journal.specs.Merges.{IsRight, history_of}
use Rattle.edge_io.specs.declared.source.Source as sources
use Rattle.demo_lines.specs.declared.rest.TheConstants.{LONGEST_REST}
use Rattle.arena_map.specs.Maps.{MapView}
use Rattle.arena_outcomes.specs.Outcomes.{outcome_on}
use Rattle.plain_server.specs.RecordsById.{world_of, records_in}
use Rattle.plain_server.specs.Moving.{effect_among, records_after}
use Rattle.out_text.specs.Dids.{did_of}
use Rattle.client_ports.specs.Lists.{Lists}
use Rattle.out_text.specs.FrameLines.{did_line}
use Rattle.out_text.specs.OutLines.{OutLine, DidLine, line_spelling, printed_line}
use Rattle.out_text.specs.Ranges.{IsInRange}
use Rattle.out_text.specs.Transcripts.{BeginsWith}
use Rattle.transcript_check.specs.Reading.{InputView, ReadsLines}
use Rattle.transcript_check.specs.Pieces.{ReadsJournal, answers}

-- the record is another one than that of this slot
abbrev pub is_other : ℕ → Rec → Bool
is_other slot r = not (r.id == slot)

-- the command is the first of its player among these, and the others are left without it
pub record IsNextOf (pending : List Command) (c : Command) (left : List Command) : Type 0 where
  pub before : List Command
  pub after : List Command
  pub pending_is : pending ≡ before ++ c ∷ after
  pub none : AllByRecursion (λ d. (d.slot == c.slot) ≡ false) before
  pub left_is : left ≡ before ++ after

-- the line of a command that is run among these records
abbrev pub move_line : MapView → List (Option Rec) → Command → OutLine
move_line map records c = DidLine (did_of (entry_of 0 c (effect_among map records c)))

-- the line is one that can be read: it is in range, and not too long
pub record IsReadable (line : OutLine) : Type 0 where
  pub in_range : IsInRange line
  pub short : length (line_spelling line) ≤ LONGEST_REST

-- the bytes don't begin with the line of any move that is the next one of its player
abbrev pub IsNoMove : MapView → List (Option Rec) → List Command → List ℕ → Type 0
IsNoMove map records pending bytes =
    (c : Command) (left : List Command) → IsNextOf pending c left → IsReadable (move_line map records c)
    → BeginsWith bytes (printed_line (move_line map records c)) → ⊥

-- this is the line of a move that is the next one of its player, and the move was run
pub record ReportsMove (map : MapView) (line : List ℕ) (records records' : List (Option Rec)) (pending pending' : List Command) : Type 0 where
  pub c : Command
  pub next : IsNextOf pending c pending'
  pub line_is : line ≡ line_spelling (move_line map records c)
  pub records_are : records' ≡ records_after map records c

-- it is that of none
abbrev pub ReportsNone : MapView → List ℕ → List (Option Rec) → List Command → Type 0
ReportsNone map line records pending =
    (c : Command) (left : List Command) → IsNextOf pending c left → IsReadable (move_line map records c)
    → line ≡ line_spelling (move_line map records c) → ⊥

-- the line of a move that is the next one of its player was read, and the move was run
pub record TakesMove {S : Type 0} (s : sources.Ghosts S) (map : MapView) (old new : S) (input input' : InputView)
    (records records' : List (Option Rec)) (pending pending' : List Command) : Type 0 where
  pub c : Command
  pub next : IsNextOf pending c pending'
  pub reads : ReadsLines s old new input input' (move_line map records c ∷ [])
  pub records_are : records' ≡ records_after map records c

-- the lines of a journal of these moves were read: it is right, and the moves were run
pub record RunsMoves {S : Type 0} (s : sources.Ghosts S) (map : MapView) (old new : S) (input input' : InputView)
    (records records' : List (Option Rec)) (moves : List Command) : Type 0 where
  pub journal : List Entry
  pub reads : ReadsJournal s old new input input' (IsRight (outcome_on map) (world_of records) moves) (map_list did_line) journal
  pub records_are : records' ≡ records_in (run (outcome_on map) (world_of records) (history_of moves journal)) records

-- the records after these moves have run in the order of a journal
abbrev pub moved_in : MapView → List (Option Rec) → List Command → List Entry → List (Option Rec)
moved_in map records moves journal = records_in (run (outcome_on map) (world_of records) (history_of moves journal)) records

-- the lines of a frame after its first, with this journal, whose moves run among these records
abbrev pub answers_among : MapView → ℕ → List (Option Rec) → Lists → List Entry → List OutLine
answers_among map frame records lists journal = answers frame lists journal (moved_in map records lists.moves journal)

-- these lines were read, with a right journal, and the moves were run
pub record RunsAnswers {S : Type 0} (s : sources.Ghosts S) (map : MapView) (frame : ℕ) (lists : Lists) (old new : S) (input input' : InputView)
    (records records' : List (Option Rec)) : Type 0 where
  pub journal : List Entry
  pub reads : ReadsJournal s old new input input' (IsRight (outcome_on map) (world_of records) lists.moves) (answers_among map frame records lists) journal
  pub records_are : records' ≡ moved_in map records lists.moves journal
