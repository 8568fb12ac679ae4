-- A log of a match: what follows the lines of a map in an input, against what `feed` writes after a recording of that map.
-- Frame by frame it has the packets that arrived and what was answered. It is cut into pieces: the lines of each frame,
-- which are its `frame` line, its `from` lines and its answers, and the last line.
use Rattle.std.specs.Prelude.{◌≡◌, ℕ, ◌+◌, ◌≤◌, Bool, true, false, List, [], ◌∷◌, ◌++◌, length}
use Rattle.edge_io.specs.Lines.{HasNoLineFeed}
use Rattle.entity_recs.specs.declared.effect.Entry.{Entry}
use Rattle.arena_map.specs.Maps.{MapView}
use Rattle.packet_read.specs.declared.arrival.Arrival.{Arrival}
use Rattle.plain_server.specs.RecordsById.{opening}
use Rattle.plain_server.specs.Frames.{AreRight}
use Rattle.demo_lines.specs.declared.rest.TheConstants.{LONGEST_REST}
use Rattle.demo_lines.specs.Spelling.{IsRecording}
use Rattle.out_text.specs.OutLines.{OutLine, FrameLine, FromLine, NoLine, JoinedLine, DidLine, ToLine, EndLine, text_of}
use Rattle.out_text.specs.Feeds.{fed_lines, is_from_line}
use Rattle.out_text.specs.Transcripts.{BeginsWith}

-- after this line more packets of its frame may come: it opens a frame, or is a packet
abbrev pub is_before_packets : OutLine → Bool
is_before_packets (FrameLine frame) = true
is_before_packets (FromLine port bytes) = true
is_before_packets (NoLine place why) = false
is_before_packets (JoinedLine port slot) = false
is_before_packets (DidLine did) = false
is_before_packets (ToLine slot bytes) = false
is_before_packets (EndLine frames) = false

-- the last of these lines is such a one: the frame has no answer so far
abbrev pub may_have_more : List OutLine → Bool
may_have_more [] = false
may_have_more (line ∷ []) = is_before_packets line
may_have_more (line ∷ next ∷ lines) = may_have_more (next ∷ lines)

-- the bytes begin with a line that is no `from` line, and with its line feed
pub record EndsPackets (bytes : List ℕ) : Type 0 where
  pub line : List ℕ
  pub after : List ℕ
  pub is : bytes ≡ line ++ 10 ∷ after
  pub one_line : HasNoLineFeed line
  pub fits : length line ≤ LONGEST_REST
  pub other : is_from_line line ≡ false

-- right frames that bytes begin with: packets for each, which a recording of the map can have, so at most 512 a frame and
-- 100,000 frames, and none where the map has no spawn; journals, each of which is right; and the lines of `feed` with
-- these. Where the last of them has no answer, a line follows that ends its packets
pub record BeginsWithFrames (map : MapView) (log : List ℕ) : Type 0 where
  pub feeds : List (List Arrival)
  pub recorded : IsRecording map feeds
  pub journals : List (List Entry)
  pub right : AreRight map 0 (opening map) feeds journals
  pub begins : BeginsWith log (text_of (fed_lines map 0 (opening map) feeds journals))
  pub whole : may_have_more (fed_lines map 0 (opening map) feeds journals) ≡ true → EndsPackets begins.after

module _ (map : MapView) (log : List ℕ) where
  -- the log is right: there are packets for each frame and journals, each of which is right, such that it begins with the
  -- lines of `feed` with these, and the last line; what follows that isn't looked at
  pub record IsLog : Type 0 where
    pub feeds : List (List Arrival)
    pub recorded : IsRecording map feeds
    pub journals : List (List Entry)
    pub right : AreRight map 0 (opening map) feeds journals
    pub begins : BeginsWith log
        (text_of (fed_lines map 0 (opening map) feeds journals ++ EndLine (length feeds) ∷ []))

  -- the pieces of the first k frames are right
  pub record HasRightFrames (k : ℕ) : Type 0 where
    pub frames : BeginsWithFrames map log
    pub count : length frames.feeds ≡ k

  -- so many lines are those of right frames, and the next piece is wrong: it is none of a frame, and not the last line
  pub record IsWrongLogAfter (lines : ℕ) : Type 0 where
    pub k : ℕ
    pub pieces : HasRightFrames k
    pub no_more : HasRightFrames (k + 1) → ⊥
    pub not_all : IsLog → ⊥
    pub lines_are : lines ≡ length (fed_lines map 0 (opening map) pieces.frames.feeds pieces.frames.journals)
