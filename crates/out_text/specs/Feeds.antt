-- What the program writes for a recording whose packets come from client threads: after the line of each frame those of
-- its packets, in the order in which they arrived, and then what it writes for a recording with this order.
use Rattle.std.specs.Prelude.{◌≡◌, ℕ, ◌+◌, ◌-◌, ◌%◌, ◌<◌, ◌≤◌, ◌==◌, ◌⊎◌, ⊤, Bool, not, List, [], ◌∷◌, ◌++◌, length, map, take, Option, Some, None, option_map, IfSome, codes, nat_eq, slice_index}
use Rattle.std.specs.List.{filter, starts_with}
use Rattle.std.specs.List.Sorted.{IsStrictlyIncreasing}
use Rattle.entity_recs.specs.declared.effect.Entry.{Entry}
use Rattle.edge_io.specs.WholeLines.{whole_lines, unlines}
use Rattle.arena_map.specs.Maps.{MapView}
use Rattle.packet_read.specs.declared.arrival.Arrival.{Arrival}
use Rattle.packet_read.specs.Orders.{is_from, in_order, AreEachOnce}
use Rattle.client_ports.specs.States.{State}
use Rattle.plain_server.specs.RecordsById.{opening}
use Rattle.plain_server.specs.Frames.{received_in, state_after, first_of, rest_of}
use Rattle.demo_lines.specs.declared.line_refusal.LineRefusal.{LineRefusal}
use Rattle.demo_lines.specs.Bytes.{fault, map_of}
use Rattle.out_text.specs.OutLines.{OutLine, FrameLine, FromLine, NoLine, JoinedLine, DidLine, ToLine, EndLine, text_of}
use Rattle.out_text.specs.FrameLines.{lines_with}
use Rattle.out_text.specs.Reading.{line_in}
use Rattle.out_text.specs.Journals.{dids}
use Rattle.out_text.specs.Collecting.{frames_of}
use Rattle.out_text.specs.Output.{AreRightIn, AreInOrderIn, last_of}

-- ---- the order of arrival

-- the packets of a frame arrived in this order: those of each port as they were sent, and no other
abbrev pub IsFeedOf : List Arrival → List Arrival → Type 0
IsFeedOf sent fed = (port : ℕ) → filter (is_from port) fed ≡ filter (is_from port) sent

-- so did those of each frame
abbrev pub AreFeedsOf : List (List Arrival) → List (List Arrival) → Type 0
AreFeedsOf [] [] = ⊤
AreFeedsOf [] (fed ∷ feeds) = ⊥
AreFeedsOf (sent ∷ frames) [] = ⊥
AreFeedsOf (sent ∷ frames) (fed ∷ feeds) = IsFeedOf sent fed × AreFeedsOf frames feeds

-- the packets of the last frame, where there is one
abbrev pub last_fed : List (List Arrival) → Option (List Arrival)
last_fed [] = None
last_fed (fed ∷ []) = Some fed
last_fed (fed ∷ next ∷ feeds) = last_fed (next ∷ feeds)

-- the packets of the last frame in this order, where there is one
abbrev pub last_ordered : Option (List ℕ) → List (List Arrival) → Option (List Arrival)
last_ordered None frames = None
last_ordered (Some order) frames = option_map (in_order order) (last_fed frames)

-- the port of the packet at this place leaves this number when it is divided by 2
abbrev pub is_of_parity : List Arrival → ℕ → ℕ → Bool
is_of_parity sent parity place = slice_index (map (λ (a : Arrival). a.port) sent) place % 2 == parity

-- the places of the packets from even ports rise, and so do those of the packets from odd ports
pub record RiseByParity (sent : List Arrival) (places : List ℕ) : Type 0 where
  pub evens : IsStrictlyIncreasing (filter (is_of_parity sent 0) places)
  pub odds : IsStrictlyIncreasing (filter (is_of_parity sent 1) places)

-- this is the order of the last of these frames: it has the place of each packet once, those of even ports rise and those
-- of odd ports do, and in it the packets are those of the last of the feeds; without a frame there is none
pub record IsLastOrder (order : Option (List ℕ)) (frames feeds : List (List Arrival)) : Type 0 where
  pub none : feeds ≡ [] → order ≡ None
  pub places : IfSome order (λ places. IfSome (last_fed frames) (λ sent. AreEachOnce (length sent) places))
  pub rising : IfSome order (λ places. IfSome (last_fed frames) (λ sent. RiseByParity sent places))
  pub packets : last_ordered order frames ≡ last_fed feeds

-- ---- the lines

-- the line of a packet that arrived
abbrev pub from_line : Arrival → OutLine
from_line a = FromLine a.port a.bytes

-- lines with those of packets after the first
abbrev pub with_froms : List Arrival → List OutLine → List OutLine
with_froms arrivals [] = []
with_froms arrivals (line ∷ lines) = line ∷ (map from_line arrivals ++ lines)

-- the lines of frames whose packets arrived in this order, the first of which has this number, with these journals
abbrev pub fed_lines : MapView → ℕ → State → List (List Arrival) → List (List Entry) → List OutLine
fed_lines map frame state [] journals = []
fed_lines map frame state (fed ∷ feeds) journals =
    let r = received_in map frame state fed in
    with_froms fed (lines_with map frame r (first_of journals))
    ++ fed_lines map (frame + 1) (state_after map r (first_of journals)) feeds (rest_of journals)

-- those of frames in an arena, from the first frame on; without an arena there are none
abbrev pub fed_lines_in : Option MapView → List (List Arrival) → List (List Entry) → List OutLine
fed_lines_in None feeds journals = []
fed_lines_in (Some map) feeds journals = fed_lines map 0 (opening map) feeds journals

-- their text, and their text with the last line
abbrev pub fed_text : List ℕ → List (List Arrival) → List (List Entry) → List ℕ
fed_text bytes feeds journals = text_of (fed_lines_in (map_of bytes) feeds journals)

abbrev pub fed_output : List ℕ → List (List Arrival) → List (List Entry) → List ℕ
fed_output bytes feeds journals =
    text_of (fed_lines_in (map_of bytes) feeds journals ++ EndLine (length feeds) ∷ [])

-- ---- the order of arrival of a text, read off its `from` lines

-- what a line is to the order of arrival: it opens a frame, is a packet, or neither
pub data Mark : Type 0 where
  Opens : Mark
  Arrives : (a : Arrival) → Mark
  Other : Mark

abbrev pub mark_of_line : Option OutLine → Mark
mark_of_line None = Other
mark_of_line (Some (FrameLine frame)) = Opens
mark_of_line (Some (FromLine port bytes)) = Arrives (record { port = port; bytes = bytes })
mark_of_line (Some (NoLine place why)) = Other
mark_of_line (Some (JoinedLine port slot)) = Other
mark_of_line (Some (DidLine did)) = Other
mark_of_line (Some (ToLine slot bytes)) = Other
mark_of_line (Some (EndLine frames)) = Other

-- the packets before the first frame, and those of each frame
pub record Split : Type 0 where
  pub before : List Arrival
  pub frames : List (List Arrival)

abbrev pub onto : Mark → Split → Split
onto Opens s = record { before = []; frames = s.before ∷ s.frames }
onto (Arrives a) s = record { before = a ∷ s.before; frames = s.frames }
onto Other s = s

abbrev pub split_at_frames : List Mark → Split
split_at_frames [] = record { before = []; frames = [] }
split_at_frames (mark ∷ marks) = onto mark (split_at_frames marks)

-- the packets of each frame of a text, in the order of its `from` lines
abbrev pub froms : List ℕ → List (List Arrival)
froms text = (split_at_frames (map (λ line. mark_of_line (line_in line)) (whole_lines text))).frames

-- ---- the text without its `from` lines

-- the line begins with `from `
abbrev pub is_from_line : List ℕ → Bool
is_from_line line = starts_with nat_eq line (codes "from ")

-- the lines of a text that don't
abbrev pub without_froms : List ℕ → List ℕ
without_froms text = unlines (filter (λ line. not (is_from_line line)) (whole_lines text))

-- ---- what is written

-- the text is the whole right output of a recording without a fault that is fed: the packets of each port arrived as they
-- were sent, and with this order, which the text spells, it is the output with the journals that it spells; each frame's
-- is right, and with one worker in the order of arrival
pub record IsFedOutput (workers : ℕ) (bytes text : List ℕ) : Type 0 where
  pub accepted : fault bytes ≡ None
  pub feeds : AreFeedsOf (frames_of bytes) (froms text)
  pub spelled : text ≡ fed_output bytes (froms text) (dids text)
  pub right : AreRightIn (map_of bytes) (froms text) (dids text)
  pub order : workers ≡ 1 → AreInOrderIn (map_of bytes) (froms text) (dids text)

-- the text is that of the first k frames, which are fed so
pub record IsFedFront (workers : ℕ) (bytes : List ℕ) (k : ℕ) (text : List ℕ) : Type 0 where
  pub frames : k ≤ length (frames_of bytes)
  pub feeds : AreFeedsOf (take k (frames_of bytes)) (froms text)
  pub spelled : text ≡ fed_text bytes (froms text) (dids text)
  pub right : AreRightIn (map_of bytes) (froms text) (dids text)
  pub order : workers ≡ 1 → AreInOrderIn (map_of bytes) (froms text) (dids text)

-- the text is that of all frames that are closed
abbrev pub IsFedFrames : ℕ → List ℕ → List ℕ → Type 0
IsFedFrames workers bytes text = IsFedFront workers bytes (length (frames_of bytes)) text

-- a front of the text of k frames, but not all of it, in which all frames but the last are whole; the whole frames spell
-- their order of arrival and their journals
pub record IsFedPart (workers : ℕ) (bytes : List ℕ) (k : ℕ) (whole_with : List (List Arrival) → List (List Entry)
    → List ℕ) (order : Option (List ℕ)) (last : Option (List Entry)) (text : List ℕ) : Type 0 where
  pub frames : k ≤ length (frames_of bytes)
  pub arrived : List (List Arrival)
  pub journals : List (List Entry)
  pub feeds : AreFeedsOf (take k (frames_of bytes)) arrived
  pub order_is : IsLastOrder order (take k (frames_of bytes)) arrived
  pub last_is : last ≡ last_of journals
  pub right : AreRightIn (map_of bytes) arrived journals
  pub in_turn : workers ≡ 1 → AreInOrderIn (map_of bytes) arrived journals
  pub front : List ℕ
  pub all_but_one : IsFedFront workers bytes (k - 1) front
  pub arrived_spelled : take (k - 1) arrived ≡ froms front
  pub journals_spelled : take (k - 1) journals ≡ dids front
  pub count : ℕ
  pub longer : length front ≤ count
  pub short : count < length (whole_with arrived journals)
  pub part : text ≡ take count (whole_with arrived journals)

-- a write failed at the text of a frame
pub record IsFedCutFrame (workers : ℕ) (bytes : List ℕ) (order : Option (List ℕ)) (last : Option (List Entry)) (text : List ℕ)
    : Type 0 where
  pub k : ℕ
  pub some : 1 ≤ k
  pub cut : IsFedPart workers bytes k (fed_text bytes) order last text

-- a write failed at the text of the last frame and the last line
pub record IsFedCutEnd (workers : ℕ) (bytes : List ℕ) (order : Option (List ℕ)) (last : Option (List Entry)) (text : List ℕ)
    : Type 0 where
  pub accepted : fault bytes ≡ None
  pub cut : IsFedPart workers bytes (length (frames_of bytes)) (fed_output bytes) order last text

-- a write failed in a text; `order` and `last` are the order of arrival and the journal of the last frame that was run
abbrev pub IsFedCut : ℕ → List ℕ → Option (List ℕ) → Option (List Entry) → List ℕ → Type 0
IsFedCut workers bytes order last text =
    IsFedCutFrame workers bytes order last text ⊎ IsFedCutEnd workers bytes order last text

-- the text is that of all closed frames of a recording whose first faulty line is this one, for this fault
pub record IsFedRefused (workers : ℕ) (bytes : List ℕ) (why : LineRefusal) (text : List ℕ) : Type 0 where
  pub faulty : fault bytes ≡ Some why
  pub frames : IsFedFrames workers bytes text

-- the text is that of some of the first frames
pub record IsFedSome (workers : ℕ) (bytes text : List ℕ) : Type 0 where
  pub k : ℕ
  pub front : IsFedFront workers bytes k text

-- the text is such a one, and these are the order and the journal of the last frame that is read off it, None where it has
-- none
pub record HasLastFed (Is : List ℕ → Type 0) (bytes : List ℕ) (order : Option (List ℕ)) (last : Option (List Entry))
    (text : List ℕ) : Type 0 where
  pub holds : Is text
  pub order_is : IsLastOrder order (take (length (froms text)) (frames_of bytes)) (froms text)
  pub last_is : last ≡ last_of (dids text)
