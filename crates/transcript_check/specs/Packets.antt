-- The packets of a frame, off the `from` lines of a log.
use Rattle.std.specs.Prelude.{◌≡◌, ℕ, true, List, [], ◌∷◌, ◌++◌, ◌<◌, length, map as map_list, IfSome}
use Rattle.edge_io.specs.declared.source.Source as sources
use Rattle.entity_recs.specs.declared.effect.Entry.{Entry}
use Rattle.packet_read.specs.declared.arrival.Arrival.{Arrival}
use Rattle.packet_read.specs.declared.arrival.TheConstants.{MOST_ARRIVALS}
use Rattle.plain_server.specs.Frames.{received_in, IsRightAfter}
use Rattle.demo_lines.specs.Spelling.{IsArrival, IsFrame}
use Rattle.out_text.specs.Feeds.{from_line}
use Rattle.out_text.specs.OutLines.{OutLine, FrameLine, line_spelling, text_of}
use Rattle.out_text.specs.Transcripts.{BeginsWith}
use Rattle.out_text.specs.MatchLogs.{EndsPackets, may_have_more}
use Rattle.transcript_check.specs.Checkers.{CheckerView}
use Rattle.transcript_check.specs.Pieces.{FrameText, TakesFrame, answers_with}
use Rattle.transcript_check.specs.Reading.{InputView, ahead_of, ReadsLines, ReadsBeginning, Misses}

-- the line is that of this packet, which a line of a recording has room for
pub record IsPacketLine (line : List ℕ) (a : Arrival) : Type 0 where
  pub fits : IsArrival a
  pub line_is : line ≡ line_spelling (from_line a)

-- the packet of this line was put last, of which a frame may have one more
pub record TakesPacket (line : List ℕ) (old new : List Arrival) : Type 0 where
  pub packet : Arrival
  pub is : IsPacketLine line packet
  pub room : length old < MOST_ARRIVALS
  pub put : new ≡ old ++ packet ∷ []

-- the line has no packet, or a frame may have no more
abbrev pub HasNoPacket : List ℕ → List Arrival → Type 0
HasNoPacket line packets = (a : Arrival) → IsPacketLine line a → length packets < MOST_ARRIVALS → ⊥

-- these are the lines of packets that a frame may have
pub record ArePackets (these : List OutLine) : Type 0 where
  pub packets : List Arrival
  pub frame : IsFrame packets
  pub lines_are : these ≡ map_list from_line packets

-- the bytes don't begin with the lines of packets that a frame may have, after which a line follows that ends them
abbrev pub HasNoPackets : List ℕ → Type 0
HasNoPackets bytes =
    (packets : List Arrival) → IsFrame packets → (begins : BeginsWith bytes (text_of (map_list from_line packets)))
    → EndsPackets begins.after → ⊥

-- the lines of these packets were read, and a line follows that ends them
pub record ReadsPackets {S : Type 0} (s : sources.Ghosts S) (old new : S) (input input' : InputView) (packets : List Arrival)
    : Type 0 where
  pub frame : IsFrame packets
  pub reads : ReadsLines s old new input input' (map_list from_line packets)
  pub ends : IfSome (ahead_of s input' new) EndsPackets

-- ---- the lines of a frame after its first

-- its packets and its answers
abbrev pub fed_with : List Arrival → FrameText
fed_with packets map frame r journal = map_list from_line packets ++ answers_with map frame r journal

module _ (c : CheckerView) where
  -- these are such lines, of packets that a frame may have and with a right journal
  pub record IsFed (these : List OutLine) : Type 0 where
    pub packets : List Arrival
    pub frame : IsFrame packets
    pub journal : List Entry
    pub right : IsRightAfter c.map (received_in c.map c.frames c.state packets) journal
    pub lines_are : these ≡ fed_with packets c.map c.frames (received_in c.map c.frames c.state packets) journal

  -- the bytes begin with such lines, and where the frame has no answer, a line follows that ends its packets
  pub record BeginsWithFed (bytes : List ℕ) : Type 0 where
    pub these : List OutLine
    pub fed : IsFed these
    pub begins : BeginsWith bytes (text_of these)
    pub whole : may_have_more (FrameLine c.frames ∷ these) ≡ true → EndsPackets begins.after

module _ {S : Type 0} (s : sources.Ghosts S) (old new : S) (c : CheckerView) where
  -- such lines were read
  pub record TakesFed (c' : CheckerView) : Type 0 where
    pub packets : List Arrival
    pub frame : IsFrame packets
    pub taken : TakesFrame s (fed_with packets) old new c c' packets
    pub whole : may_have_more (FrameLine c.frames ∷ fed_with packets c.map c.frames (received_in c.map c.frames c.state packets) taken.journal)
        ≡ true → IfSome (ahead_of s c.input old) (λ bytes. (b : BeginsWith bytes
        (text_of (fed_with packets c.map c.frames (received_in c.map c.frames c.state packets) taken.journal)))
        → EndsPackets b.after)

  -- none are there
  abbrev pub MissesFed : Type 0
  MissesFed = Misses s old new c.input (λ bytes. BeginsWithFed c bytes → ⊥)

  -- of such lines the first were read, and then one line at most
  abbrev pub BeginsFed : CheckerView → Type 0
  BeginsFed c' = ReadsBeginning s (IsFed c) old new c.input c'.input
