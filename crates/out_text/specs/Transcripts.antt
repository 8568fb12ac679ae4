-- A transcript: what follows a recording in an input, against the output of the recording. It is cut into pieces: the lines
-- of each frame, and the last line.
use Rattle.std.specs.Prelude.{◌≡◌, ℕ, ◌+◌, ◌≤◌, List, [], ◌∷◌, ◌++◌, length, take}
use Rattle.entity_recs.specs.declared.effect.Entry.{Entry}
use Rattle.arena_map.specs.Maps.{MapView}
use Rattle.packet_read.specs.declared.arrival.Arrival.{Arrival}
use Rattle.client_ports.specs.States.{State}
use Rattle.plain_server.specs.RecordsById.{opening}
use Rattle.plain_server.specs.Frames.{received_in, state_after, first_of, rest_of, AreRight}
use Rattle.out_text.specs.OutLines.{EndLine, text_of}
use Rattle.out_text.specs.FrameLines.{run_lines}

-- the bytes begin with this text
pub record BeginsWith (bytes text : List ℕ) : Type 0 where
  pub after : List ℕ
  pub is : bytes ≡ text ++ after

-- how many moves are received in frames, the first of which has this number, with these journals
abbrev pub run_moves : MapView → ℕ → State → List (List Arrival) → List (List Entry) → ℕ
run_moves map frame state [] journals = 0
run_moves map frame state (arrivals ∷ frames) journals =
    let r = received_in map frame state arrivals in
    length r.lists.moves + run_moves map (frame + 1) (state_after map r (first_of journals)) frames (rest_of journals)

module _ (map : MapView) (frames : List (List Arrival)) (rest : List ℕ) where
  -- the transcript is right: it begins with the whole output of the frames, with some journals, each of which is right;
  -- what follows the last line isn't looked at
  pub record IsTranscript : Type 0 where
    pub journals : List (List Entry)
    pub right : AreRight map 0 (opening map) frames journals
    pub begins : BeginsWith rest
        (text_of (run_lines map 0 (opening map) frames journals ++ EndLine (length frames) ∷ []))

  -- the pieces of the first k frames are right: the transcript begins with the text of these frames, with some journals,
  -- each of which is right
  pub record HasRightPieces (k : ℕ) : Type 0 where
    pub few : k ≤ length frames
    pub journals : List (List Entry)
    pub right : AreRight map 0 (opening map) (take k frames) journals
    pub begins : BeginsWith rest (text_of (run_lines map 0 (opening map) (take k frames) journals))

  -- so many lines are those of right pieces, and the next piece is wrong: that of a frame, or the last line
  pub record IsWrongAfter (lines : ℕ) : Type 0 where
    pub k : ℕ
    pub pieces : HasRightPieces k
    pub no_more : HasRightPieces (k + 1) → ⊥
    pub not_all : IsTranscript → ⊥
    pub lines_are : lines ≡ length (run_lines map 0 (opening map) (take k frames) pieces.journals)
