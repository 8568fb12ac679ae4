-- The frames of generated recordings can be written, and their packets are read.
use Rattle.std.proofs.Common.{◌≡◌, ℕ, zero, suc, ◌+◌, ◌-◌, ◌*◌, ◌/◌, ◌%◌, ◌^◌, ◌≤◌, ◌<◌, Bool, true, false, cond, eqb, List, [], ◌∷◌, ◌++◌, length, map, flat_map, All, refl, ap, arith, length-append, FitsSigned, Ok}
use Rattle.std.specs.List.{range_with_len}
use Rattle.std.specs.Int.{w16}
use Rattle.std.proofs.lemmas.Int.{ints}
use Rattle.std.proofs.lemmas.Bool.Decides.{nat_tests}
use Rattle.std.proofs.lemmas.List.Elements.{All-cons, All-nil, All-map, All-append, recursion_from_All}
use Rattle.std.proofs.lemmas.List.{length-map}
use Rattle.std.proofs.lemmas.List.FromFn.{length-map-range_with_len}
use Rattle.packet_read.specs.declared.packet.Packet.TheVariants.{Join, Move}
use Rattle.packet_read.specs.Reading.{reading}
use Rattle.packet_read.specs.Spelling.{IsAllowedMove, MoveFits}
use Rattle.packet_read.proofs.Again.{packet_again}
use Rattle.packet_read.specs.declared.arrival.Arrival.{Arrival}
use Rattle.packet_read.proofs.Fields.{move-bytes}
use Rattle.demo_lines.specs.declared.line.Line.TheVariants as lines
use Rattle.demo_lines.specs.Spelling.{IsArrival, IsFrame, IsRecording, map_lines, frame_lines, recording_lines}
use Rattle.demo_lines.proofs.Written.{packets_have_room}
use Rattle.demo_lines.proofs.RecordingsRead.{recordings_read_back}
use Rattle.demo_make.specs.Words.{word_at}
use Rattle.demo_make.specs.GeneratedMap.{generated_map}
use Rattle.demo_make.specs.GeneratedFrames.{IsInRange, wish_of, move_of, join_from, move_from, ports, joins_in, move_in, moves_in, arrivals_in, generated_frames, generated_events, generated_text}
use Rattle.demo_make.specs.Laws.{GeneratedRecordingsReadBack, FramesAreKnown}
use Rattle.demo_make.proofs.MapKept.{range-all, generated_is_map}

-- ---- a packet

pub button-few : (jumps : Bool) → cond jumps 1 0 ≤ 1
button-few true = omega arith
button-few false = omega arith

move-allowed : (seq word : ℕ) → IsAllowedMove (move_of seq word)
move-allowed seq word = record { least = omega arith; most = omega arith; buttons = button-few (eqb (word / 2 ^ 32 % 16) 0) }

wish-fits : (word : ℕ) → FitsSigned w16 (wish_of word)
wish-fits word = omega (arith, ints)

move-fits : (seq word : ℕ) → seq < 2 ^ 32 → MoveFits (move_of seq word)
move-fits seq word few = record {
  seq = few;
  ms = omega arith;
  wish_x = wish-fits word;
  wish_y = wish-fits (word / 2 ^ 16);
  buttons = omega (arith, button-few (eqb (word / 2 ^ 32 % 16) 0));
}

pub join-read : (port : ℕ) → reading (join_from port).bytes ≡ Ok Join
join-read port = packet_again Join tt tt

pub move-read : (seq port word : ℕ) → seq < 2 ^ 32 → reading (move_from seq port word).bytes ≡ Ok (Move (move_of seq word))
move-read seq port word few = packet_again (Move (move_of seq word)) (move-fits seq word few) (move-allowed seq word)

join-arrival : (port : ℕ) → port ≤ 64 → IsArrival (join_from port)
join-arrival port few = record {
  port = omega arith;
  bytes = All-cons (λ b. b < 256) 1 (1 ∷ []) (omega arith) (All-cons (λ b. b < 256) 1 [] (omega arith) (All-nil (λ b. b < 256)));
  fits = packets_have_room.lowest (join_from port) (omega arith) (omega arith);
}

pub move-arrival : (seq port word : ℕ) → port ≤ 64 → IsArrival (move_from seq port word)
move-arrival seq port word few = record {
  port = omega arith;
  bytes = move-bytes (move_of seq word) (omega arith) (omega (arith, button-few (eqb (word / 2 ^ 32 % 16) 0)));
  fits = packets_have_room.lowest (move_from seq port word) (omega arith) (omega arith);
}

-- ---- a frame

pub joins-are : (players frame : ℕ) → players ≤ 64 → All IsArrival (joins_in players frame)
joins-are players frame few = by_frame (eqb frame 0)
  where
    by_frame : (first : Bool) → All IsArrival (cond first (map join_from (ports players)) [])
    by_frame true = All-map IsArrival join_from (ports players) (range-all (λ port. IsArrival (join_from port)) 1 players (λ port _ below. join-arrival port (omega arith)))
    by_frame false = All-nil IsArrival

pub joins-few : (players frame : ℕ) → length (joins_in players frame) ≤ players
joins-few players frame = by_frame (eqb frame 0)
  where
    by_frame : (first : Bool) → length (cond first (map join_from (ports players)) []) ≤ players
    by_frame true = omega (arith, length-map-range_with_len join_from 1 players)
    by_frame false = omega arith

moves-are : (seed players frame : ℕ) → players ≤ 64 → All IsArrival (moves_in seed players frame)
moves-are seed players frame few =
    All-map IsArrival (move_in seed players frame) (ports players)
    (range-all (λ port. IsArrival (move_in seed players frame port)) 1 players
    (λ port _ below. move-arrival (frame + 1) port (word_at seed (frame * players + (port - 1))) (omega arith)))

frame-is : (seed players frame : ℕ) → players ≤ 64 → IsFrame (arrivals_in seed players frame)
frame-is seed players frame few = record {
  few = omega (
    arith,
    length-append (joins_in players frame) (moves_in seed players frame),
    joins-few players frame,
    length-map-range_with_len (move_in seed players frame) 1 players,
  );
  each = recursion_from_All IsArrival (arrivals_in seed players frame)
      (All-append IsArrival (joins_in players frame) (moves_in seed players frame) (joins-are players frame few) (moves-are seed players frame few));
}

recording-is : (seed players frames : ℕ) → IsInRange players frames → IsRecording generated_map (generated_frames seed players frames)
recording-is seed players frames range = record {
  is_map = generated_is_map;
  few = omega (arith, range.few_frames, length-map-range_with_len (arrivals_in seed players) 0 frames);
  each = recursion_from_All IsFrame (generated_frames seed players frames)
      (All-map IsFrame (arrivals_in seed players) (range_with_len 0 frames)
      (range-all (λ f. IsFrame (arrivals_in seed players f)) 0 frames (λ f _ _. frame-is seed players f range.few_players)));
  spawn = λ h. refl;
}

pub generated_recordings_read_back : GeneratedRecordingsReadBack
unfolding generated_text generated_events
generated_recordings_read_back seed players frames range =
    let back = recordings_read_back generated_map (generated_frames seed players frames) (recording-is seed players frames range) in
    record { fault = back.fault; map = back.map; events = back.events }

-- ---- how many lines

pub no-joins : (players frame : ℕ) → 0 < frame → joins_in players frame ≡ []
no-joins players frame later = let e : eqb frame 0 ≡ false = grind (arith, nat_tests) in rw e refl

pub later-is : (seed players frame : ℕ) → 0 < frame → arrivals_in seed players frame ≡ moves_in seed players frame
later-is seed players frame later = ap (λ js. js ++ moves_in seed players frame) (no-joins players frame later)

moves-length : (seed players frame : ℕ) → length (moves_in seed players frame) ≡ players
moves-length seed players frame = length-map-range_with_len (move_in seed players frame) 1 players

frame-length : (arrivals : List Arrival) → length (frame_lines arrivals) ≡ length arrivals + 1
frame-length arrivals = omega (arith, length-map arrivals lines.From)

frames-length : (seed players first more : ℕ) → 0 < first
    → length (flat_map frame_lines (map (arrivals_in seed players) (range_with_len first more))) ≡ more * (players + 1)
frames-length seed players first zero later = omega arith
frames-length seed players first (suc more) later =
    let others = flat_map frame_lines (map (arrivals_in seed players) (range_with_len (first + 1) more)) in
    omega (
      arith,
      length-append (frame_lines (arrivals_in seed players first)) others,
      frame-length (arrivals_in seed players first),
      ap length (later-is seed players first later),
      moves-length seed players first,
      frames-length seed players (first + 1) more (omega arith),
    )

all-length : (seed players frames : ℕ) → 1 ≤ frames
    → length (flat_map frame_lines (generated_frames seed players frames)) ≡ players + frames * (players + 1)
all-length seed players zero some = absurd (omega arith)
all-length seed players (suc more) some =
    let others = flat_map frame_lines (map (arrivals_in seed players) (range_with_len 1 more)) in
    let joins = map join_from (ports players) in
    omega (
      arith,
      length-append (frame_lines (arrivals_in seed players 0)) others,
      frame-length (arrivals_in seed players 0),
      length-append joins (moves_in seed players 0),
      length-map-range_with_len join_from 1 players,
      moves-length seed players 0,
      frames-length seed players 1 more (omega arith),
    )

lines-length : (seed players frames : ℕ) → 1 ≤ frames
    → length (recording_lines generated_map (generated_frames seed players frames))
    ≡ 102 + players + frames * (players + 1)
lines-length seed players frames some =
    let packets = flat_map frame_lines (generated_frames seed players frames) in
    let of_map : length (map_lines generated_map) ≡ 101 = refl in
    omega (
      arith,
      length-append (map_lines generated_map) (packets ++ lines.End ∷ []),
      of_map,
      length-append packets (lines.End ∷ []),
      all-length seed players frames some,
    )

pub frames_are_known : FramesAreKnown
frames_are_known = record {
  first = λ seed players. refl;
  later = later-is;
  joins = λ players. length-map-range_with_len join_from 1 players;
  moves = moves-length;
  lines = lines-length;
}
