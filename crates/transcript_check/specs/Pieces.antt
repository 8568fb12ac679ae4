-- The pieces of a transcript, of which the code doesn't know the journal beforehand.
use Rattle.std.specs.Prelude.{◌≡◌, ℕ, ◌+◌, List, ◌++◌, ◌≤◌, length, map as map_list, Option, IfSome}
use Rattle.edge_io.specs.declared.source.Source as sources
use Rattle.entity_recs.specs.declared.rec.Rec.{Rec}
use Rattle.entity_recs.specs.declared.effect.Entry.{Entry}
use Rattle.arena_map.specs.Maps.{MapView}
use Rattle.packet_read.specs.declared.arrival.Arrival.{Arrival}
use Rattle.client_ports.specs.Lists.{Lists}
use Rattle.client_ports.specs.Receiving.{Receiving}
use Rattle.plain_server.specs.Frames.{received_in, moved_by, state_after, IsRightAfter}
use Rattle.out_text.specs.FrameLines.{no_line, joined_line, did_line, to_lines, lines_with}
use Rattle.out_text.specs.OutLines.{OutLine, text_of}
use Rattle.out_text.specs.Transcripts.{BeginsWith}
use Rattle.client_ports.specs.declared.received.TheConstants.{MOST_FRAME_MOVES}
use Rattle.transcript_check.specs.Reading.{InputView, ahead_of, ReadsLines, ReadsBeginning, Misses}
use Rattle.transcript_check.specs.Checkers.{CheckerView, IsChecker}

-- the lines of a right journal were read, and no other right journal has its lines there
pub record ReadsJournal {S : Type 0} (s : sources.Ghosts S) (old new : S) (input input' : InputView) (Right : List Entry → Type 0)
    (lines : List Entry → List OutLine) (journal : List Entry) : Type 0 where
  pub right : Right journal
  pub reads : ReadsLines s old new input input' (lines journal)
  pub only : IfSome (ahead_of s input old) (λ bytes. (other : List Entry) → Right other
      → BeginsWith bytes (text_of (lines other)) → other ≡ journal)

-- no right journal has its lines there
abbrev pub HasNoJournal : (List Entry → Type 0) → (List Entry → List OutLine) → List ℕ → Type 0
HasNoJournal Right lines bytes = (journal : List Entry) → Right journal → BeginsWith bytes (text_of (lines journal)) → ⊥

-- these are the lines of a right journal
pub record AreOfJournal (Right : List Entry → Type 0) (lines : List Entry → List OutLine) (these : List OutLine) : Type 0 where
  pub journal : List Entry
  pub right : Right journal
  pub lines_are : these ≡ lines journal

-- the lines of a frame between its first and its moves
abbrev pub early_lines : Lists → List OutLine
early_lines lists = map_list no_line lists.refused ++ map_list joined_line lists.joined

-- the lines of a frame after its first, where it ends with these records
abbrev pub answers : ℕ → Lists → List Entry → List (Option Rec) → List OutLine
answers frame lists journal records = early_lines lists ++ map_list did_line journal ++ to_lines frame records

-- and with this journal
abbrev pub answers_with : MapView → ℕ → Receiving → List Entry → List OutLine
answers_with map frame r journal = answers frame r.lists journal (moved_by map r journal).records

-- lines of a frame, by its map, its number, what was received and its journal
abbrev pub FrameText : Type 0
FrameText = MapView → ℕ → Receiving → List Entry → List OutLine

module _ {S : Type 0} (s : sources.Ghosts S) (lines : FrameText) (old new : S) (c : CheckerView) where
  -- such lines of a frame with these packets were read, with a right journal, and the checker is the one after it
  pub record TakesFrame (c' : CheckerView) (arrivals : List Arrival) : Type 0 where
    pub journal : List Entry
    pub reads : ReadsJournal s old new c.input c'.input (IsRightAfter c.map (received_in c.map c.frames c.state arrivals))
        (lines c.map c.frames (received_in c.map c.frames c.state arrivals)) journal
    pub map_is : c'.map ≡ c.map
    pub state_is : c'.state ≡ state_after c.map (received_in c.map c.frames c.state arrivals) journal
    pub frames_are : c'.frames ≡ c.frames + 1
    pub moves_are : c'.moves ≡ c.moves + length (received_in c.map c.frames c.state arrivals).lists.moves
    pub is : IsChecker c'.map c'.state
    pub few : length (lines_with c.map c.frames (received_in c.map c.frames c.state arrivals) journal) ≤ 2000
    pub moves_few : length (received_in c.map c.frames c.state arrivals).lists.moves ≤ MOST_FRAME_MOVES

  -- such lines aren't there, whichever right journal
  abbrev pub MissesFrame : List Arrival → Type 0
  MissesFrame arrivals =
      Misses s old new c.input (HasNoJournal (IsRightAfter c.map (received_in c.map c.frames c.state arrivals))
      (lines c.map c.frames (received_in c.map c.frames c.state arrivals)))

  -- of such lines, with some right journal, the first were read, and then one line at most
  abbrev pub BeginsFrame : CheckerView → List Arrival → Type 0
  BeginsFrame c' arrivals =
      ReadsBeginning s (AreOfJournal (IsRightAfter c.map (received_in c.map c.frames c.state arrivals))
      (lines c.map c.frames (received_in c.map c.frames c.state arrivals))) old new c.input c'.input
