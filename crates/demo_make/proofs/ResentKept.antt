-- The frames of recordings in which commands are resent can be written, and their text is read back.
use Rattle.std.proofs.Common.{ℕ, ◌+◌, ◌-◌, ◌/◌, ◌%◌, ◌^◌, ◌≤◌, ◌<◌, eqb, List, [], ◌∷◌, ◌++◌, length, filter, flat_map, All, refl, arith, length-append}
use Rattle.std.specs.List.{range_with_len}
use Rattle.std.proofs.lemmas.List.Elements.{All-nil, All-head, All-tail, All-map, All-append, All-filter, All-from_recursion, recursion_from_All}
use Rattle.std.proofs.lemmas.List.{length-map}
use Rattle.std.proofs.lemmas.List.FromFn.{length-map-range_with_len, length-range_with_len}
use Rattle.std.proofs.lemmas.List.Sums.{length-filter, count_by-le-length}
use Rattle.std.specs.Int.{w32, to_le_bytes}
use Rattle.edge_io.specs.Lines.{AreBytes}
use Rattle.packet_read.specs.declared.block_list.CmdBlock.{CmdBlock}
use Rattle.packet_read.specs.Spelling.{block_fields}
use Rattle.packet_read.proofs.Blocks.{length_fields}
use Rattle.demo_lines.specs.Spelling.{IsArrival, IsFrame, IsRecording}
use Rattle.demo_lines.proofs.Written.{packets_have_room}
use Rattle.demo_lines.proofs.RecordingsRead.{recordings_read_back}
use Rattle.demo_make.specs.GeneratedMap.{generated_map}
use Rattle.demo_make.specs.GeneratedFrames.{IsInRange, command_of, ports, joins_in}
use Rattle.demo_make.specs.ResentFrames.{command_in, how_many_in, last_commands, repeat_from, arrives, repeats_in, resent_in, resent_frames, resent_events, resent_text}
use Rattle.demo_make.specs.Laws.{ResentRecordingsReadBack}
use Rattle.demo_make.proofs.MapKept.{range-all, generated_is_map}
use Rattle.demo_make.proofs.FramesKept.{button-few, joins-are, joins-few}
use Rattle.demo_make.proofs.Repeats.{many-few, commands-length}

-- ---- a packet

command-bytes : (word : ℕ) → AreBytes (block_fields (command_of word))
command-bytes word =
    All-from_recursion (λ b. b < 256) (block_fields (command_of word))
    (omega arith, (omega arith, (omega arith, (omega arith, (omega arith, (omega (arith, button-few (eqb (word / 2 ^ 32 % 16) 0)), tt))))))

abbrev HasBytes : CmdBlock → Type 0
HasBytes b = AreBytes (block_fields b)

fields-bytes : (cmds : List CmdBlock) → All HasBytes cmds → AreBytes (flat_map block_fields cmds)
fields-bytes [] all = All-nil (λ b. b < 256)
fields-bytes (b ∷ more) all =
    All-append (λ b. b < 256) (block_fields b) (flat_map block_fields more) (All-head HasBytes b more all)
    (fields-bytes more (All-tail HasBytes b more all))

last-bytes : (seed players frame port : ℕ) → AreBytes (flat_map block_fields (last_commands seed players frame port))
last-bytes seed players frame port =
    let first = frame + 1 - how_many_in frame in
    fields-bytes (last_commands seed players frame port)
    (All-map HasBytes (command_in seed players port) (range_with_len first (how_many_in frame))
    (range-all (λ n. HasBytes (command_in seed players port n)) first (how_many_in frame) (λ n _ _. command-bytes _)))

repeat-bytes : (seed players frame port : ℕ) → AreBytes (repeat_from seed players frame port).bytes
repeat-bytes seed players frame port =
    let cmds = last_commands seed players frame port in
    All-append (λ b. b < 256) (2 ∷ 2 ∷ to_le_bytes w32 (frame + 1) ++ length cmds ∷ []) (flat_map block_fields cmds)
    (All-from_recursion (λ b. b < 256) (2 ∷ 2 ∷ to_le_bytes w32 (frame + 1) ++ length cmds ∷ [])
    (omega arith, (omega arith, (omega arith, (omega arith, (omega arith, (omega arith, (omega (arith, commands-length seed players frame port, many-few frame), tt))))))))
    (last-bytes seed players frame port)

repeat-length : (seed players frame port : ℕ) → length (repeat_from seed players frame port).bytes ≤ 252
repeat-length seed players frame port =
    let cmds = last_commands seed players frame port in
    omega (arith, length_fields cmds, commands-length seed players frame port, many-few frame)

repeat-arrival : (seed players frame port : ℕ) → port ≤ 64 → IsArrival (repeat_from seed players frame port)
repeat-arrival seed players frame port few = record {
  port = omega arith;
  bytes = repeat-bytes seed players frame port;
  fits = packets_have_room.lowest (repeat_from seed players frame port) (omega arith) (repeat-length seed players frame port);
}

-- ---- a frame

repeats-are : (seed players frames frame : ℕ) → players ≤ 64 → All IsArrival (repeats_in seed players frames frame)
repeats-are seed players frames frame few =
    All-map IsArrival (repeat_from seed players frame) (filter (arrives frames frame) (ports players))
    (All-filter (arrives frames frame) (λ port. IsArrival (repeat_from seed players frame port)) (ports players)
    (range-all (λ port. IsArrival (repeat_from seed players frame port)) 1 players
    (λ port _ below. repeat-arrival seed players frame port (omega arith))))

repeats-few : (seed players frames frame : ℕ) → length (repeats_in seed players frames frame) ≤ players
repeats-few seed players frames frame =
    omega (
      arith,
      length-map (filter (arrives frames frame) (ports players)) (repeat_from seed players frame),
      length-filter (arrives frames frame) (ports players),
      count_by-le-length (arrives frames frame) (ports players),
      length-range_with_len 1 players,
    )

frame-is : (seed players frames frame : ℕ) → players ≤ 64 → IsFrame (resent_in seed players frames frame)
frame-is seed players frames frame few = record {
  few = omega (
    arith,
    length-append (joins_in players frame) (repeats_in seed players frames frame),
    joins-few players frame,
    repeats-few seed players frames frame,
  );
  each = recursion_from_All IsArrival (resent_in seed players frames frame)
      (All-append IsArrival (joins_in players frame) (repeats_in seed players frames frame) (joins-are players frame few)
      (repeats-are seed players frames frame few));
}

-- ---- the recording

-- the frames can be written
pub resent-is : (seed players frames : ℕ) → IsInRange players frames → IsRecording generated_map (resent_frames seed players frames)
resent-is seed players frames range = record {
  is_map = generated_is_map;
  few = omega (arith, range.few_frames, length-map-range_with_len (resent_in seed players frames) 0 frames);
  each = recursion_from_All IsFrame (resent_frames seed players frames)
      (All-map IsFrame (resent_in seed players frames) (range_with_len 0 frames)
      (range-all (λ f. IsFrame (resent_in seed players frames f)) 0 frames (λ f _ _. frame-is seed players frames f range.few_players)));
  spawn = λ h. refl;
}

-- and their text is read back: it has no fault, and gives the map and the events
pub resent-back : ResentRecordingsReadBack
unfolding resent_text resent_events
resent-back seed players frames range =
    let back = recordings_read_back generated_map (resent_frames seed players frames) (resent-is seed players frames range) in
    record { fault = back.fault; map = back.map; events = back.events }
