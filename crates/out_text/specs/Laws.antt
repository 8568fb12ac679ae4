-- What holds of every text, and of the outputs of recordings.
use Rattle.std.specs.Prelude.{◌≡◌, ℕ, ◌+◌, ◌*◌, ◌≤◌, ◌↔◌, ◌⊎◌, true, false, List, [], ◌∷◌, ◌++◌, length, take, flat_map}
use Rattle.std.specs.Prelude.{Option, None, Some, IsSome}
use Rattle.entity_recs.specs.declared.effect.Entry.{Entry}
use Rattle.move_journal.specs.Merges.{IsInOrder}
use Rattle.arena_map.specs.declared.limits.TheConstants.{MOST_FRAMES}
use Rattle.arena_map.specs.Maps.{MapView, IsMap}
use Rattle.packet_read.specs.declared.arrival.Arrival.{Arrival}
use Rattle.client_ports.specs.Clients.{client_at}
use Rattle.client_ports.specs.States.{State, IsServerState}
use Rattle.client_ports.specs.Finishing.{is_leaver}
use Rattle.client_ports.specs.Frames.{moves_by_packet}
use Rattle.plain_server.specs.Frames.{received_in, moved_by, state_after, state_played, IsRightAfter, AreRight}
use Rattle.plain_server.specs.Frames.{AreInOrder, state_after_tick}
use Rattle.demo_lines.specs.declared.line_refusal.LineRefusal.{LineRefusal}
use Rattle.demo_lines.specs.Bytes.{events, fault, map_of}
use Rattle.demo_lines.specs.Spelling.{IsRecording, recording_text, frame_events, recording_events}
use Rattle.out_text.specs.Dids.{Did}
use Rattle.out_text.specs.OutLines.{OutLine, FrameLine, DidLine, line_spelling}
use Rattle.out_text.specs.Ranges.{IsInRange, IsPrinted}
use Rattle.out_text.specs.Reading.{line_in}
use Rattle.out_text.specs.Journals.{Opens, Reports, is_reportable, mark_of, dids}
use Rattle.out_text.specs.Collecting.{frames_of}
use Rattle.out_text.specs.Output.{AreRightIn, front_text, out_text, IsOutput, IsFront, IsPart}
use Rattle.out_text.specs.OneTaker.{HasOneTakerEach}
use Rattle.out_text.specs.FrameLines.{lines_with, run_lines}
use Rattle.out_text.specs.ToLines.{HasOneReplyEach}
use Rattle.out_text.specs.PacketLines.{new_leavers, HasOneAnswerEach}
use Rattle.out_text.specs.LastMoves.{IsLastMove, IsShownAt, IsLiveAt}

-- a line reports a move exactly where it is the `did` line of one that is in range
abbrev pub DidLinesAreRead : Type 0
DidLinesAreRead =
    (line : List ℕ) (d : Did) → (mark_of line ≡ Reports d) ↔ ((is_reportable d ≡ true) × (line ≡ line_spelling (DidLine d)))

-- the line of a frame, with a number of 32 bits
pub record IsFrameLine (line : List ℕ) : Type 0 where
  pub frame : ℕ
  pub fits : frame ≤ 4294967295
  pub is : line ≡ line_spelling (FrameLine frame)

-- a line opens a frame exactly where it is a frame's
abbrev pub FrameLinesAreRead : Type 0
FrameLinesAreRead = (line : List ℕ) → (mark_of line ≡ Opens) ↔ IsFrameLine line

-- no frame was opened
pub record HasNoFrame (bytes : List ℕ) : Type 0 where
  pub events_are : events bytes ≡ []
  pub frames_are : frames_of bytes ≡ []

-- a frame is open: the events are those of the closed frames and then those of this one
pub record HasOpenFrame (bytes : List ℕ) : Type 0 where
  pub opened : List Arrival
  pub events_are : events bytes ≡ flat_map frame_events (frames_of bytes ++ opened ∷ [])

-- the events of a recording without a fault are those of its frames, each with its packets in their order, and then the
-- end; those of a faulty one are those of its closed frames and of the one that is open, where any was opened
pub record FramesHaveTheEvents : Type 0 where
  pub whole : (bytes : List ℕ) → fault bytes ≡ None → events bytes ≡ recording_events (frames_of bytes)
  pub faulty : (bytes : List ℕ) (why : LineRefusal) → fault bytes ≡ Some why → HasNoFrame bytes ⊎ HasOpenFrame bytes

-- an output of a recording that is played by so many workers
pub record HasOutput (workers : ℕ) (bytes : List ℕ) : Type 0 where
  pub text : List ℕ
  pub is_output : IsOutput workers bytes text

-- each recording without a fault has an output, for every number of workers
abbrev pub FaultlessRecordingsHaveOutputs : Type 0
FaultlessRecordingsHaveOutputs = (workers : ℕ) (bytes : List ℕ) → fault bytes ≡ None → HasOutput workers bytes

-- each recording that can be written has an output, for every number of workers
abbrev pub WrittenRecordingsHaveOutputs : Type 0
WrittenRecordingsHaveOutputs =
    (workers : ℕ) (map : MapView) (frames : List (List Arrival)) → IsRecording map frames
    → HasOutput workers (recording_text map frames)

-- with one worker a recording has at most one output
abbrev pub OneWorkerHasOneOutput : Type 0
OneWorkerHasOneOutput =
    (bytes text other : List ℕ) → IsOutput 1 bytes text → IsOutput 1 bytes other → text ≡ other

-- the journals that are read off the text of a recording's frames, or off its whole output, are those with which it was
-- made, where those are right
pub record OutputsSpellTheirJournals : Type 0 where
  pub whole : (bytes : List ℕ) (journals : List (List Entry)) → AreRightIn (map_of bytes) (frames_of bytes) journals
      → dids (out_text bytes journals) ≡ journals
  pub front : (bytes : List ℕ) (k : ℕ) (journals : List (List Entry))
      → AreRightIn (map_of bytes) (take k (frames_of bytes)) journals
      → dids (front_text bytes k journals) ≡ journals

-- a line in range is read as itself where it was printed
abbrev pub LinesReadBack : Type 0
LinesReadBack = (line : List ℕ) (l : OutLine) → (line_in line ≡ Some l) ↔ IsPrinted line l

-- no two lines in range are printed alike
abbrev pub LinesArePrintedApart : Type 0
LinesArePrintedApart = (l k : OutLine) → IsInRange l → IsInRange k → line_spelling l ≡ line_spelling k → l ≡ k

-- the map of a recording keeps the rules of maps, and a recording without a fault has one
pub record RecordingsHaveMaps : Type 0 where
  pub kept : (bytes : List ℕ) (map : MapView) → map_of bytes ≡ Some map → IsMap map
  pub there : (bytes : List ℕ) → fault bytes ≡ None → IsSome (map_of bytes)

-- each item has one taker, until its delay is over: in right journals of frames on the map of a recording, in those
-- that are read off a whole output or off the text of the first frames, and in those of which a part was written
pub record OutputsHaveOneTaker : Type 0 where
  pub right : (bytes : List ℕ) (frames : List (List Arrival)) (journals : List (List Entry))
      → AreRightIn (map_of bytes) frames journals → HasOneTakerEach (map_of bytes) journals
  pub whole : (workers : ℕ) (bytes text : List ℕ) → IsOutput workers bytes text
      → HasOneTakerEach (map_of bytes) (dids text)
  pub front : (workers : ℕ) (bytes : List ℕ) (k : ℕ) (text : List ℕ) → IsFront workers bytes k text
      → HasOneTakerEach (map_of bytes) (dids text)
  pub part : (workers : ℕ) (bytes : List ℕ) (k : ℕ) (whole_with : List (List Entry) → List ℕ)
      (last : Option (List Entry)) (text : List ℕ) (is : IsPart workers bytes k whole_with last text)
      → HasOneTakerEach (map_of bytes) is.journals

-- a recording has at most 100,000 frames; with right journals the text of its first frames has at most 1,120,000 bytes a
-- frame, and its whole output at most 16 more, whatever their order
pub record OutputsAreBounded : Type 0 where
  pub few : (bytes : List ℕ) → length (frames_of bytes) ≤ MOST_FRAMES
  pub front : (bytes : List ℕ) (k : ℕ) (journals : List (List Entry))
      → AreRightIn (map_of bytes) (take k (frames_of bytes)) journals
      → length (front_text bytes k journals) ≤ 1120000 * length (take k (frames_of bytes))
  pub whole : (bytes : List ℕ) (journals : List (List Entry)) → AreRightIn (map_of bytes) (frames_of bytes) journals
      → length (out_text bytes journals) ≤ 1120000 * length (frames_of bytes) + 16

-- the lines of a frame have one `to` line for each slot that is live after the moves, with the snapshot of its player,
-- in rising slot
abbrev pub FramesHaveOneReplyEach : Type 0
FramesHaveOneReplyEach =
    (map : MapView) (frame : ℕ) (state : State) (arrivals : List Arrival) (journal : List Entry) → IsMap map
    → IsServerState map state
    → let r = received_in map frame state arrivals in
    HasOneReplyEach frame (moved_by map r journal).records (lines_with map frame r journal)

-- the lines of a frame have one `no` line for each packet that was refused, with its place and the refusal, and one
-- `joined` line for each that joined, in the order of arrival, and no other; the other packets leave, or give the moves
-- of the frame: one at least, and at most as many as they have commands
abbrev pub FramesAnswerTheirPackets : Type 0
FramesAnswerTheirPackets =
    (map : MapView) (frame : ℕ) (state : State) (arrivals : List Arrival) (journal : List Entry)
    → let before = state_after_tick map frame state in
    let r = received_in map frame state arrivals in
    HasOneAnswerEach arrivals (moves_by_packet map frame before arrivals) (new_leavers before r) r.lists
    (lines_with map frame r journal)

-- no frames have no lines, and one frame more adds its own: it has the number that follows, and begins with the state
-- that the frames before it left
pub record LinesAreInTurn : Type 0 where
  pub none : (map : MapView) (frame : ℕ) (state : State) → run_lines map frame state [] [] ≡ []
  pub more : (map : MapView) (frame : ℕ) (state : State) (frames : List (List Arrival)) (journals : List (List Entry))
      (arrivals : List Arrival) (journal : List Entry) → length journals ≡ length frames
      → let number = frame + length frames in
      let r = received_in map number (state_played map frame state frames journals) arrivals in
      run_lines map frame state (frames ++ arrivals ∷ []) (journals ++ journal ∷ [])
      ≡ run_lines map frame state frames journals ++ lines_with map number r journal

-- journals of frames and of one more are right exactly where those of the frames are, and the last is right for what is
-- received then: in the frame with the number that follows, in the state that the frames before it left; the same of
-- the order of arrival
pub record JournalsAreInTurn : Type 0 where
  pub right : (map : MapView) (frame : ℕ) (state : State) (frames : List (List Arrival)) (journals : List (List Entry))
      (arrivals : List Arrival) (journal : List Entry) → length journals ≡ length frames
      → let number = frame + length frames in
      let r = received_in map number (state_played map frame state frames journals) arrivals in
      AreRight map frame state (frames ++ arrivals ∷ []) (journals ++ journal ∷ [])
      ↔ (AreRight map frame state frames journals × IsRightAfter map r journal)
  pub order : (map : MapView) (frame : ℕ) (state : State) (frames : List (List Arrival)) (journals : List (List Entry))
      (arrivals : List Arrival) (journal : List Entry) → length journals ≡ length frames
      → let number = frame + length frames in
      let r = received_in map number (state_played map frame state frames journals) arrivals in
      AreInOrder map frame state (frames ++ arrivals ∷ []) (journals ++ journal ∷ [])
      ↔ (AreInOrder map frame state frames journals × IsInOrder journal r.lists.moves)

-- where the last `did` line of a slot in a frame reports its player, also after a leap, there its `to` line shows it
-- and there it begins the next frame, before the tick, unless it leaves
pub record LastMovesAreShown : Type 0 where
  pub shown : (map : MapView) (frame : ℕ) (state : State) (arrivals : List Arrival) (journal : List Entry) → IsMap map
      → IsServerState map state
      → let r = received_in map frame state arrivals in
      IsRightAfter map r journal → (d : Did) → IsLastMove (lines_with map frame r journal) d
      → IsShownAt (lines_with map frame r journal) d.slot d.origin
  pub next : (map : MapView) (frame : ℕ) (state : State) (arrivals : List Arrival) (journal : List Entry) → IsMap map
      → IsServerState map state
      → let r = received_in map frame state arrivals in
      IsRightAfter map r journal → (d : Did) → IsLastMove (lines_with map frame r journal) d
      → is_leaver (client_at r.state.clients d.slot) ≡ false
      → IsLiveAt (state_after map r journal).records d.slot d.origin
