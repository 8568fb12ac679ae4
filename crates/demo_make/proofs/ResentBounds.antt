-- The text of a recording in which commands are resent has at most so many bytes.
use Rattle.std.proofs.Common.{ℕ, zero, suc, ◌+◌, ◌*◌, ◌≤◌, ◌<◌, Bool, true, false, cond, List, [], ◌∷◌, ◌++◌, length, map, filter, flat_map, sym, ap, arith, length-append}
use Rattle.std.specs.List.{range_with_len}
use Rattle.std.specs.Int.{w32, to_le_bytes}
use Rattle.std.proofs.lemmas.List.{map-append}
use Rattle.edge_io.specs.WholeLines.{unlines}
use Rattle.arena_map.specs.Spelling.{map_line_text}
use Rattle.packet_read.specs.Spelling.{block_fields}
use Rattle.packet_read.proofs.Blocks.{length_fields}
use Rattle.packet_read.specs.declared.arrival.Arrival.{Arrival}
use Rattle.demo_lines.specs.declared.event.Event.{Event}
use Rattle.demo_lines.specs.declared.event.Event.TheVariants as events
use Rattle.demo_lines.specs.Spelling.{frame_events}
use Rattle.demo_make.specs.GeneratedMap.{generated_lines}
use Rattle.demo_make.specs.GeneratedFrames.{joins_in}
use Rattle.demo_make.specs.ResentFrames.{last_commands, repeat_from, arrives, repeats_in, resent_in, resent_frames, resent_events}
use Rattle.demo_make.specs.Remaining.{event_text, events_text}
use Rattle.demo_make.specs.Laws.{ResentTextsAreBounded}
use Rattle.demo_make.proofs.Lines.{whole-fits}
use Rattle.demo_make.proofs.FramesKept.{no-joins}
use Rattle.demo_make.proofs.Repeats.{many-few, commands-length}
use Rattle.demo_make.proofs.Bounds.{text-append, from-long, joins-long}
use Rattle.demo_make.proofs.Texts.{resent_text-parts}

-- ---- a packet

repeat-long : (seed players frame port : ℕ) → port ≤ 64 → length (event_text (events.From (repeat_from seed players frame port))) ≤ 59
repeat-long seed players frame port few =
    let cmds = last_commands seed players frame port in
    omega (
      arith,
      from-long port 2 (2 ∷ to_le_bytes w32 (frame + 1) ++ length cmds ∷ flat_map block_fields cmds) few,
      length_fields cmds,
      commands-length seed players frame port,
      many-few frame,
    )

-- ---- a frame

-- one packet more, or none
one-more : (seed players frame port most : ℕ) (others : List ℕ) (comes : Bool) → port ≤ 64
    → length (events_text (map events.From (map (repeat_from seed players frame) others))) ≤ most
    → length (events_text (map events.From (map (repeat_from seed players frame) (cond comes (port ∷ others) others)))) ≤ 59 + most
one-more seed players frame port most others true few rest =
    omega (
      arith,
      length-append (event_text (events.From (repeat_from seed players frame port))) (events_text (map events.From (map (repeat_from seed players frame) others))),
      repeat-long seed players frame port few,
      rest,
    )
one-more seed players frame port most others false few rest = omega (arith, rest)

-- the packets of those ports of a range that pass a test
repeats-long : (seed players frame : ℕ) (test : ℕ → Bool) (first more : ℕ) → first + more ≤ 65
    → length (events_text (map events.From (map (repeat_from seed players frame) (filter test (range_with_len first more))))) ≤ 59 * more
repeats-long seed players frame test first zero few = omega arith
repeats-long seed players frame test first (suc more) few =
    let others = filter test (range_with_len (first + 1) more) in
    let rest = repeats-long seed players frame test (first + 1) more (omega (arith, few)) in
    omega (arith, one-more seed players frame first (59 * more) others (test first) (omega (arith, few)) rest)

abbrev joins_text : ℕ → ℕ → List ℕ
joins_text players frame = events_text (map events.From (joins_in players frame))

frame-long : (seed players frames frame : ℕ) → players ≤ 64
    → length (events_text (frame_events (resent_in seed players frames frame))) ≤ 6 + length (joins_text players frame) + 59 * players
frame-long seed players frames frame few =
    let joins = joins_in players frame in
    let packets = repeats_in seed players frames frame in
    omega (
      arith,
      length-append (event_text events.Frame) (events_text (map events.From (joins ++ packets))),
      ap (λ (es : List Event). length (events_text es)) (map-append events.From joins packets),
      text-append (map events.From joins) (map events.From packets),
      repeats-long seed players frame (arrives frames frame) 1 players (omega (arith, few)),
    )

first-long : (seed players frames : ℕ) → players ≤ 64 → length (events_text (frame_events (resent_in seed players frames 0))) ≤ 6 + 72 * players
first-long seed players frames few = omega (arith, frame-long seed players frames 0 few, joins-long 1 players (omega (arith, few)))

later-long : (seed players frames frame : ℕ) → players ≤ 64 → 0 < frame
    → length (events_text (frame_events (resent_in seed players frames frame))) ≤ 6 + 59 * players
later-long seed players frames frame few later =
    omega (
      arith,
      frame-long seed players frames frame few,
      ap (λ (arrivals : List Arrival). length (events_text (map events.From arrivals))) (no-joins players frame later),
    )

-- ---- all frames

frames-long : (seed players frames first more : ℕ) → players ≤ 64 → 0 < first
    → length (events_text (flat_map frame_events (map (resent_in seed players frames) (range_with_len first more)))) ≤ more * (6 + 59 * players)
frames-long seed players frames first zero few later = omega arith
frames-long seed players frames first (suc more) few later =
    omega (
      arith,
      text-append (frame_events (resent_in seed players frames first)) (flat_map frame_events (map (resent_in seed players frames) (range_with_len (first + 1) more))),
      later-long seed players frames first few later,
      frames-long seed players frames (first + 1) more few (omega arith),
    )

all-long : (seed players all frames : ℕ) → players ≤ 64 → 1 ≤ frames
    → length (events_text (flat_map frame_events (map (resent_in seed players all) (range_with_len 0 frames)))) ≤ 13 * players + frames * (6 + 59 * players)
all-long seed players all zero few some = absurd (omega (arith, some))
all-long seed players all (suc more) few some =
    omega (
      arith,
      text-append (frame_events (resent_in seed players all 0)) (flat_map frame_events (map (resent_in seed players all) (range_with_len 1 more))),
      first-long seed players all few,
      frames-long seed players all 1 more few (omega arith),
    )

pub resent_texts_are_bounded : ResentTextsAreBounded
unfolding resent_events
resent_texts_are_bounded seed players frames range =
    let of_map = unlines (map map_line_text generated_lines) in
    let packets = flat_map frame_events (resent_frames seed players frames) in
    omega (
      arith,
      ap length (sym (resent_text-parts seed players frames)),
      length-append of_map (events_text (resent_events seed players frames)),
      text-append packets (events.End ∷ []),
      whole-fits,
      all-long seed players frames frames range.few_players range.some_frames,
    )
