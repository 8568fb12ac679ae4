-- What holds of the outputs of recordings whose packets arrive in an order of their own.
use Rattle.std.specs.Prelude.{◌≡◌, ℕ, ◌+◌, ◌*◌, ◌≤◌, List, [], ◌∷◌, ◌++◌, length, map as map_list, take, None, Some}
use Rattle.entity_recs.specs.declared.effect.Entry.{Entry}
use Rattle.arena_map.specs.Maps.{MapView}
use Rattle.packet_read.specs.declared.arrival.Arrival.{Arrival}
use Rattle.client_ports.specs.States.{State}
use Rattle.plain_server.specs.Frames.{received_in, state_played}
use Rattle.demo_lines.specs.Bytes.{fault, map_of}
use Rattle.demo_lines.specs.Laws.{IsTextOf}
use Rattle.demo_lines.specs.Spelling.{recording_text}
use Rattle.out_text.specs.Collecting.{frames_of}
use Rattle.out_text.specs.Output.{AreRightIn, IsOutput, IsAllFrames}
use Rattle.out_text.specs.OutLines.{OutLine, FrameLine}
use Rattle.out_text.specs.FrameLines.{lines_with}
use Rattle.out_text.specs.Feeds.{AreFeedsOf, from_line, fed_lines, fed_text, fed_output, froms, without_froms}
use Rattle.out_text.specs.Feeds.{IsFedOutput, IsFedFront}

-- the text is such a one of the recording of this map and these frames, which is without a fault and is read as that
pub record IsOfRecording (map : MapView) (frames : List (List Arrival)) (Is : List ℕ → List ℕ → Type 0) (text : List ℕ)
    : Type 0 where
  pub read : IsTextOf map frames (recording_text map frames)
  pub frames_are : frames_of (recording_text map frames) ≡ frames
  pub holds : Is (recording_text map frames) text

-- a fed output of a recording whose packets arrived in this order
pub record HasFedOutput (workers : ℕ) (bytes : List ℕ) (feeds : List (List Arrival)) : Type 0 where
  pub text : List ℕ
  pub is_output : IsFedOutput workers bytes text
  pub order_is : froms text ≡ feeds

-- one that is this text without its `from` lines
pub record HasFedOutputOf (workers : ℕ) (bytes : List ℕ) (feeds : List (List Arrival)) (text : List ℕ) : Type 0 where
  pub fed : HasFedOutput workers bytes feeds
  pub without : without_froms fed.text ≡ text

-- without its `from` lines a fed output is an output, with as many workers, of the recording with the same map whose
-- packets stand in the order that these lines spell, and the text of the first frames is that of all frames of such a
-- recording; and for each order of arrival, each output of such a recording is a fed output without these lines
pub record FedOutputsAreOutputs : Type 0 where
  pub whole : (workers : ℕ) (bytes text : List ℕ) (map : MapView) → map_of bytes ≡ Some map
      → IsFedOutput workers bytes text → IsOfRecording map (froms text) (IsOutput workers) (without_froms text)
  pub front : (workers : ℕ) (bytes : List ℕ) (k : ℕ) (text : List ℕ) (map : MapView) → map_of bytes ≡ Some map
      → IsFedFront workers bytes k text → IsOfRecording map (froms text) (IsAllFrames workers) (without_froms text)
  pub back : (workers : ℕ) (bytes : List ℕ) (map : MapView) (feeds : List (List Arrival)) (text : List ℕ)
      → fault bytes ≡ None → map_of bytes ≡ Some map → AreFeedsOf (frames_of bytes) feeds
      → IsOutput workers (recording_text map feeds) text → HasFedOutputOf workers bytes feeds text

-- a recording without a fault has a fed output in each order of arrival, for every number of workers; one order is that
-- in which the recording has the packets
pub record FaultlessRecordingsHaveFedOutputs : Type 0 where
  pub each_order : (workers : ℕ) (bytes : List ℕ) (feeds : List (List Arrival)) → fault bytes ≡ None
      → AreFeedsOf (frames_of bytes) feeds → HasFedOutput workers bytes feeds
  pub as_sent : (workers : ℕ) (bytes : List ℕ) → fault bytes ≡ None → HasFedOutput workers bytes (frames_of bytes)

-- with one worker it has at most one in each
abbrev pub OneWorkerHasOneFedOutput : Type 0
OneWorkerHasOneFedOutput =
    (bytes text other : List ℕ) → IsFedOutput 1 bytes text → IsFedOutput 1 bytes other → froms text ≡ froms other
    → text ≡ other

-- with right journals the text of the first frames of a recording that is fed has at most 1,382,656 bytes a frame, and its
-- whole output at most 16 more, whatever the orders; so has each fed output
pub record FedOutputsAreBounded : Type 0 where
  pub front : (bytes : List ℕ) (k : ℕ) (feeds : List (List Arrival)) (journals : List (List Entry))
      → AreFeedsOf (take k (frames_of bytes)) feeds → AreRightIn (map_of bytes) feeds journals
      → length (fed_text bytes feeds journals) ≤ 1382656 * length (take k (frames_of bytes))
  pub whole : (bytes : List ℕ) (feeds : List (List Arrival)) (journals : List (List Entry))
      → AreFeedsOf (frames_of bytes) feeds → AreRightIn (map_of bytes) feeds journals
      → length (fed_output bytes feeds journals) ≤ 1382656 * length (frames_of bytes) + 16
  pub text : (workers : ℕ) (bytes text : List ℕ) → IsFedOutput workers bytes text
      → length text ≤ 1382656 * length (frames_of bytes) + 16

-- no frames have no lines, and one frame more adds its own: its `frame` line, then one for each of its packets in the
-- order in which they arrived, and then its other lines
pub record FedLinesAreInTurn : Type 0 where
  pub none : (map : MapView) (frame : ℕ) (state : State) → fed_lines map frame state [] [] ≡ []
  pub more : (map : MapView) (frame : ℕ) (state : State) (feeds : List (List Arrival)) (journals : List (List Entry))
      (fed : List Arrival) (journal : List Entry) (others : List OutLine) → length journals ≡ length feeds
      → let number = frame + length feeds in
      let r = received_in map number (state_played map frame state feeds journals) fed in
      lines_with map number r journal ≡ FrameLine number ∷ others
      → fed_lines map frame state (feeds ++ fed ∷ []) (journals ++ journal ∷ [])
      ≡ fed_lines map frame state feeds journals ++ (FrameLine number ∷ (map_list from_line fed ++ others))
