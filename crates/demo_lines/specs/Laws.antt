-- What holds of all recordings, and of the packets on their lines.
use Rattle.std.specs.Prelude.{◌≡◌, ◌↔◌, ℕ, ◌+◌, ◌≤◌, ◌<◌, Bool, true, false, List, [], ◌∷◌, ◌++◌, length, Option, Some, None}
use Rattle.std.specs.Prelude.{codes, count_by}
use Rattle.std.specs.List.{slice_split}
use Rattle.edge_io.specs.Lines.{AreBytes}
use Rattle.hex.specs.Hex.{encode_lower, encode_upper}
use Rattle.demo_lines.specs.Packets.{packet_bytes}
use Rattle.arena_geo.specs.Bounds.{Bounds}
use Rattle.arena_map.specs.declared.map_line.MapLine.{MapLine}
use Rattle.arena_map.specs.Maps.{MapView}
use Rattle.packet_read.specs.declared.arrival.Arrival.{Arrival}
use Rattle.packet_read.specs.declared.arrival.TheConstants.{MOST_ARRIVALS, MOST_BYTES}
use Rattle.arena_map.specs.declared.limits.TheConstants.{MOST_FRAMES}
use Rattle.demo_lines.specs.declared.line.Line.{Line}
use Rattle.demo_lines.specs.declared.line.Line.TheVariants.{From}
use Rattle.demo_lines.specs.declared.line_fault.LineFault.{LineFault}
use Rattle.demo_lines.specs.declared.rest.TheConstants.{LONGEST_REST}
use Rattle.demo_lines.specs.declared.stage.Stage.TheVariants.{Ended}
use Rattle.demo_lines.specs.Known.{Reading, start, without_map, is_map_whole, is_refused, is_over}
use Rattle.demo_lines.specs.declared.word.Word.{Word}
use Rattle.demo_lines.specs.Words.{has_form}
use Rattle.demo_lines.specs.Lines.{text_of, are_printable, first_word, rest_of, line_in}
use Rattle.demo_lines.specs.Faults.{is_long, fault_of}
use Rattle.demo_lines.specs.Recording.{after, opens_frame, events_of, most_lines}
use Rattle.demo_lines.specs.Reads.{ReadsQuietly}
use Rattle.demo_lines.specs.Spelling.{line_text, IsLine, recording_lines, recording_text, recording_events, IsRecording}
use Rattle.demo_lines.specs.Spelling.{small_map, small_lines, small_frames, small_text}
use Rattle.demo_lines.specs.InTurn.{IsBuilt, map_in_turn, text_in_turn}
use Rattle.edge_io.specs.WholeLines.{is_line_feed, whole_lines}
use Rattle.demo_lines.specs.Bytes.{LineRefusal, refusal, events_within, fault_within, map_within, events, fault, map_of}

-- the most frames of a recording, packets of a frame, bytes of a packet, lines of a recording, and bytes of a line after it
pub record LimitsAreKnown : Type 0 where
  pub frames : MOST_FRAMES ≡ 100000
  pub arrivals : MOST_ARRIVALS ≡ 512
  pub bytes : MOST_BYTES ≡ 252
  pub lines : most_lines ≡ 51304613
  pub rest : LONGEST_REST ≡ 16500

-- a packet is read back from its bytes as two hexadecimal digits each, in either case, and an empty one from a dash
pub record PacketReadsBack : Type 0 where
  pub dash : packet_bytes (codes "-") ≡ Some []
  pub lower : (bytes : List ℕ) → AreBytes bytes → 0 < length bytes → packet_bytes (encode_lower bytes) ≡ Some bytes
  pub upper : (bytes : List ℕ) → AreBytes bytes → 0 < length bytes → packet_bytes (encode_upper bytes) ≡ Some bytes

-- there are none of these parts
abbrev pub are_none : List (List ℕ) → Bool
are_none [] = true
are_none (part ∷ parts) = false

-- of the parts that line feeds separate this one has a fault, and none before it has one or ends the recording; its
-- number is 1 more than how many are before it, and where none is later the input ended in it
pub record IsFirstFault (bytes : List ℕ) (why : LineRefusal) : Type 0 where
  pub before : List (List ℕ)
  pub raw : List ℕ
  pub later : List (List ℕ)
  pub parts : slice_split is_line_feed bytes ≡ before ++ raw ∷ later
  pub going : is_over (after start before).stage ≡ false
  pub fault : LineFault
  pub holds : fault_of (after start before) (are_none later) raw ≡ Some fault
  pub is : why ≡ refusal (length before + 1) fault

-- a recording is refused exactly for the first of its lines that has a fault, with that line's number and first fault
abbrev pub FaultsAreTheFirst : Type 0
FaultsAreTheFirst = (bytes : List ℕ) (why : LineRefusal) → (fault bytes ≡ Some why) ↔ IsFirstFault bytes why

-- more bytes after these give no event, and change neither the fault nor the map
-- One statement for the end and for a refused line.
pub record AddsNothing (bytes more : List ℕ) : Type 0 where
  pub events : events (bytes ++ more) ≡ events bytes
  pub fault : fault (bytes ++ more) ≡ fault bytes
  pub map : map_of (bytes ++ more) ≡ map_of bytes

-- the rest of the input after the end is ignored: after its line feed, and, where it has none, after a line feed that
-- follows
pub record NothingAfterTheEnd : Type 0 where
  pub whole : (bytes more : List ℕ) → (after start (whole_lines bytes)).stage ≡ Ended → AddsNothing bytes more
  pub cut : (bytes more : List ℕ) → fault bytes ≡ None → AddsNothing bytes (10 ∷ more)

-- the rest of the input after a refused line is ignored
abbrev pub NothingAfterARefusal : Type 0
NothingAfterARefusal =
    (bytes more : List ℕ) → is_refused (after start (whole_lines bytes)).stage ≡ true → AddsNothing bytes more

-- once the map is whole, the lines are read as well without it
pub record MapMayBeGivenOut (r : Reading) (lines : List (List ℕ)) : Type 0 where
  pub reached : after (without_map r) lines ≡ without_map (after r lines)
  pub events : events_of (without_map r) lines ≡ events_of r lines

-- this holds of all lines
abbrev pub NothingNeedsTheMap : Type 0
NothingNeedsTheMap = (r : Reading) (lines : List (List ℕ)) → is_map_whole r.stage ≡ true → MapMayBeGivenOut r lines

-- lack of memory is never reported where the map is whole, so not after the first event
abbrev pub MemoryIsForTheMap : Type 0
MemoryIsForTheMap =
    (r : Reading) (before later : Option (List ℕ)) → is_map_whole r.stage ≡ true → ReadsQuietly r before later → ⊥

-- a text is a line that says this: it has at most 512 bytes, all printed and the last no carriage return, a word and
-- fields of its form, and their values
pub record IsReadAs (raw : List ℕ) (line : Line) : Type 0 where
  pub word : Word
  pub whole : text_of raw ≡ raw
  pub short : is_long raw ≡ false
  pub printable : are_printable (text_of raw) ≡ true
  pub first : first_word (text_of raw) ≡ Some word
  pub form : has_form word (rest_of (text_of raw)) ≡ true
  pub says : line_in raw ≡ Some line

-- a line is read back from its text exactly where it can be written
abbrev pub LinesReadBack : Type 0
LinesReadBack = (line : Line) → IsReadAs (line_text line) line ↔ IsLine line

-- a line has room for a packet of 250 bytes from each port, of 251 from one below 10,000, and of 252 from one below 100
pub record PacketsHaveRoom : Type 0 where
  pub each : (a : Arrival) → a.port < 65536 → length a.bytes ≤ 250 → length (line_text (From a)) ≤ 512
  pub low : (a : Arrival) → a.port < 10000 → length a.bytes ≤ 251 → length (line_text (From a)) ≤ 512
  pub lowest : (a : Arrival) → a.port < 100 → length a.bytes ≤ 252 → length (line_text (From a)) ≤ 512

-- a text is that of a recording of this map and these frames: it has no fault, and gives the map, the frames with their
-- packets and then the end
pub record IsTextOf (m : MapView) (frames : List (List Arrival)) (text : List ℕ) : Type 0 where
  pub fault : fault text ≡ None
  pub map : map_of text ≡ Some m
  pub events : events text ≡ recording_events frames

-- a recording that can be written is read as what was written: with the settings of its map first, then the spawns, then
-- the blocks and then the things, and with its map's lines in any order in which each is accepted in turn
pub record RecordingsReadBack : Type 0 where
  pub in_order : (m : MapView) (frames : List (List Arrival)) → IsRecording m frames
      → IsTextOf m frames (recording_text m frames)
  pub in_turn : (arena : Bounds) (added : List MapLine) (frames : List (List Arrival)) → IsBuilt arena added frames
      → IsTextOf (map_in_turn arena added) frames (text_in_turn arena added frames)

-- a small recording can be written, and this is its text; and so it can with its block before its spawns
pub record SmallRecording : Type 0 where
  pub is : IsRecording small_map small_frames
  pub text : recording_text small_map small_frames ≡ small_text
  pub built : IsBuilt small_map.bounds small_lines small_frames
  pub same : map_in_turn small_map.bounds small_lines ≡ small_map

-- a recording that can be written and has so many lines
pub record HasLines (count : ℕ) : Type 0 where
  pub map : MapView
  pub frames : List (List Arrival)
  pub is : IsRecording map frames
  pub lines : length (recording_lines map frames) ≡ count

-- up to its end or its refused line a recording has at most 1 line with the arena, 1 that names the depth, 1 that lets
-- players shoot, 1 that allows 4,096 blocks, 64 with spawns, 4,096 with blocks, 448 with things, 100,000 times 1 that
-- opens a frame and 512 with its packets, and 1 that ends it or is refused; and some have so many
pub record LinesAreBounded : Type 0 where
  pub bound : (lines : List (List ℕ)) → is_over (after start lines).stage ≡ false → length lines < most_lines
  pub longest : HasLines most_lines

-- the recording has no fault, and the map and the events that it has with this limit of frames
pub record IsSameRecording (limit : ℕ) (bytes : List ℕ) : Type 0 where
  pub accepted : fault bytes ≡ None
  pub map : map_of bytes ≡ map_within limit bytes
  pub events : events bytes ≡ events_within limit bytes

-- a recording without a fault where there may be only so many frames is the same where there may be as many as in any, and
-- one that has no more frames has no fault with the limit
pub record LimitsCutNothing : Type 0 where
  pub same : (limit : ℕ) (bytes : List ℕ) → limit ≤ MOST_FRAMES → fault_within limit bytes ≡ None → IsSameRecording limit bytes
  pub few : (limit : ℕ) (bytes : List ℕ) → fault bytes ≡ None → count_by opens_frame (events bytes) ≤ limit
      → fault_within limit bytes ≡ None
