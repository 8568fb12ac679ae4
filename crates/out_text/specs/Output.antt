-- What the program writes for a recording.
use Rattle.std.specs.Prelude.{◌≡◌, ℕ, ◌-◌, ◌<◌, ◌≤◌, ◌⊎◌, List, [], ◌∷◌, ◌++◌, length, take, Option, Some, None}
use Rattle.entity_recs.specs.declared.effect.Entry.{Entry}
use Rattle.arena_map.specs.Maps.{MapView}
use Rattle.packet_read.specs.declared.arrival.Arrival.{Arrival}
use Rattle.plain_server.specs.RecordsById.{opening}
use Rattle.plain_server.specs.Frames.{AreRight, AreInOrder}
use Rattle.demo_lines.specs.declared.line_refusal.LineRefusal.{LineRefusal}
use Rattle.demo_lines.specs.Bytes.{fault, map_of}
use Rattle.out_text.specs.OutLines.{OutLine, EndLine, text_of}
use Rattle.out_text.specs.FrameLines.{run_lines}
use Rattle.out_text.specs.Journals.{dids}
use Rattle.out_text.specs.Collecting.{frames_of}

-- the lines of frames in an arena, from the first frame on; without an arena there are none
abbrev pub lines_in : Option MapView → List (List Arrival) → List (List Entry) → List OutLine
lines_in None frames journals = []
lines_in (Some map) frames journals = run_lines map 0 (opening map) frames journals

-- the journals of frames in an arena are right, from the first frame on, and there is one a frame
abbrev pub AreRightIn : Option MapView → List (List Arrival) → List (List Entry) → Type 0
AreRightIn None frames journals = (frames ≡ []) × (journals ≡ [])
AreRightIn (Some map) frames journals = AreRight map 0 (opening map) frames journals

-- they have the moves in the order of arrival
abbrev pub AreInOrderIn : Option MapView → List (List Arrival) → List (List Entry) → Type 0
AreInOrderIn None frames journals = (frames ≡ []) × (journals ≡ [])
AreInOrderIn (Some map) frames journals = AreInOrder map 0 (opening map) frames journals

-- the text of the first k frames of a recording, with these journals
abbrev pub front_text : List ℕ → ℕ → List (List Entry) → List ℕ
front_text bytes k journals = text_of (lines_in (map_of bytes) (take k (frames_of bytes)) journals)

-- the whole output of a recording, with these journals: its frames, and how many there were
abbrev pub out_text : List ℕ → List (List Entry) → List ℕ
out_text bytes journals =
    text_of (lines_in (map_of bytes) (frames_of bytes) journals ++ EndLine (length (frames_of bytes)) ∷ [])

-- the last of journals, where there is one
abbrev pub last_of : List (List Entry) → Option (List Entry)
last_of [] = None
last_of (j ∷ []) = Some j
last_of (j ∷ k ∷ js) = last_of (k ∷ js)

-- the text is such a one, and this is the last of the journals that are read off it, None where it has none
pub record HasLast (Is : List ℕ → Type 0) (last : Option (List Entry)) (text : List ℕ) : Type 0 where
  pub holds : Is text
  pub last_is : last ≡ last_of (dids text)

-- the text is the whole output of a recording without a fault, with the journals that are read off it; each frame's is
-- right, and with one worker in the order of arrival
pub record IsOutput (workers : ℕ) (bytes text : List ℕ) : Type 0 where
  pub accepted : fault bytes ≡ None
  pub spelled : text ≡ out_text bytes (dids text)
  pub right : AreRightIn (map_of bytes) (frames_of bytes) (dids text)
  pub order : workers ≡ 1 → AreInOrderIn (map_of bytes) (frames_of bytes) (dids text)

-- the text is that of the first k frames, with the journals that are read off it; each is right, and with one worker in
-- the order of arrival
pub record IsFront (workers : ℕ) (bytes : List ℕ) (k : ℕ) (text : List ℕ) : Type 0 where
  pub frames : k ≤ length (frames_of bytes)
  pub spelled : text ≡ front_text bytes k (dids text)
  pub right : AreRightIn (map_of bytes) (take k (frames_of bytes)) (dids text)
  pub order : workers ≡ 1 → AreInOrderIn (map_of bytes) (take k (frames_of bytes)) (dids text)

-- the text is that of all frames that are closed
abbrev pub IsAllFrames : ℕ → List ℕ → List ℕ → Type 0
IsAllFrames workers bytes text = IsFront workers bytes (length (frames_of bytes)) text

-- a front of the text of k frames, but not all of it, in which all frames but the last are whole; the frames' journals
-- are right, and with one worker in the order of arrival; the whole frames spell theirs, and the last frame's is `last`
pub record IsPart (workers : ℕ) (bytes : List ℕ) (k : ℕ) (whole_with : List (List Entry)
    → List ℕ) (last : Option (List Entry)) (text : List ℕ) : Type 0 where
  pub frames : k ≤ length (frames_of bytes)
  pub journals : List (List Entry)
  pub last_is : last ≡ last_of journals
  pub right : AreRightIn (map_of bytes) (take k (frames_of bytes)) journals
  pub order : workers ≡ 1 → AreInOrderIn (map_of bytes) (take k (frames_of bytes)) journals
  pub front : List ℕ
  pub all_but_one : IsFront workers bytes (k - 1) front
  pub spelled : take (k - 1) journals ≡ dids front
  pub count : ℕ
  pub longer : length front ≤ count
  pub short : count < length (whole_with journals)
  pub part : text ≡ take count (whole_with journals)

-- a write failed at the text of a frame, whose journal is `last`
pub record IsCutFrame (workers : ℕ) (bytes : List ℕ) (last : Option (List Entry)) (text : List ℕ) : Type 0 where
  pub k : ℕ
  pub some : 1 ≤ k
  pub cut : IsPart workers bytes k (front_text bytes k) last text

-- a write failed at the text of the last frame, whose journal is `last`, and the last line
pub record IsCutEnd (workers : ℕ) (bytes : List ℕ) (last : Option (List Entry)) (text : List ℕ) : Type 0 where
  pub accepted : fault bytes ≡ None
  pub cut : IsPart workers bytes (length (frames_of bytes)) (out_text bytes) last text

-- a write failed in a text, and `last` is the journal of the last frame that was run
abbrev pub IsCut : ℕ → List ℕ → Option (List Entry) → List ℕ → Type 0
IsCut workers bytes last text = IsCutFrame workers bytes last text ⊎ IsCutEnd workers bytes last text

-- the text is that of all closed frames of a recording whose first faulty line is this one, for this fault
pub record IsRefused (workers : ℕ) (bytes : List ℕ) (why : LineRefusal) (text : List ℕ) : Type 0 where
  pub faulty : fault bytes ≡ Some why
  pub frames : IsAllFrames workers bytes text

-- the text is that of some of the first frames
pub record IsSomeFrames (workers : ℕ) (bytes text : List ℕ) : Type 0 where
  pub k : ℕ
  pub front : IsFront workers bytes k text
