-- The text of a recording has at most so many bytes.
use Rattle.std.proofs.Common.{◌≡◌, ℕ, zero, suc, ◌+◌, ◌*◌, ◌≤◌, ◌<◌, List, [], ◌∷◌, ◌++◌, length, map, flat_map, codes, decimal, sym, ap, ◌∙◌, arith, length-append}
use Rattle.std.specs.List.{range_with_len}
use Rattle.std.proofs.lemmas.Fmt.{length-decimal-le}
use Rattle.std.proofs.lemmas.Grind.{flat_map-append}
use Rattle.std.proofs.lemmas.List.{map-append}
use Rattle.hex.specs.Hex.{encode_lower, lower_digits}
use Rattle.hex.proofs.HexLemmas.{length-encode_with}
use Rattle.edge_io.specs.WholeLines.{unlines}
use Rattle.edge_io.specs.Fields.{field_text}
use Rattle.arena_map.specs.Spelling.{map_line_text}
use Rattle.packet_read.specs.declared.arrival.Arrival.{Arrival}
use Rattle.demo_lines.specs.declared.event.Event.{Event}
use Rattle.demo_lines.specs.declared.event.Event.TheVariants as events
use Rattle.demo_lines.specs.Spelling.{frame_events}
use Rattle.demo_make.specs.GeneratedMap.{generated_lines}
use Rattle.demo_make.specs.GeneratedFrames.{arrival, join_from, ports, move_in, moves_in, arrivals_in, generated_frames, generated_events}
use Rattle.demo_make.specs.Remaining.{event_text, events_text}
use Rattle.demo_make.specs.Laws.{GeneratedTextsAreBounded}
use Rattle.demo_make.proofs.Lines.{whole-fits}
use Rattle.demo_make.proofs.FramesKept.{later-is}
use Rattle.demo_make.proofs.Texts.{generated_text-parts}

-- the texts of events put together
pub text-append : (es more : List Event) → length (events_text (es ++ more)) ≡ length (events_text es) + length (events_text more)
text-append es more = ap length (flat_map-append event_text es more) ∙ length-append (events_text es) (events_text more)

-- ---- a packet

pub from-long : (port b : ℕ) (bytes : List ℕ) → port ≤ 64 → length (event_text (events.From (arrival port (b ∷ bytes)))) ≤ 11 + 2 * length bytes
from-long port b bytes few =
    let front = codes "from" ++ field_text (decimal port) in
    let packet = encode_lower (b ∷ bytes) in
    omega (
      arith,
      length-append (front ++ field_text packet) (10 ∷ []),
      length-append front (field_text packet),
      length-append (codes "from") (field_text (decimal port)),
      length-append (codes " ") (decimal port),
      length-append (codes " ") packet,
      length-decimal-le 2 port (omega arith) (omega (arith, few)) (omega (arith, few)),
      length-encode_with lower_digits (b ∷ bytes),
    )

join-long : (port : ℕ) → port ≤ 64 → length (event_text (events.From (join_from port))) ≤ 13
join-long port few = from-long port 1 (1 ∷ []) few

move-long : (seed players frame port : ℕ) → port ≤ 64 → length (event_text (events.From (move_in seed players frame port))) ≤ 33
move-long seed players frame port few = from-long port _ _ few

-- ---- a frame

pub joins-long : (first more : ℕ) → first + more ≤ 65 → length (events_text (map events.From (map join_from (range_with_len first more)))) ≤ 13 * more
joins-long first zero few = omega arith
joins-long first (suc more) few =
    let rest = map events.From (map join_from (range_with_len (first + 1) more)) in
    omega (
      arith,
      length-append (event_text (events.From (join_from first))) (events_text rest),
      join-long first (omega (arith, few)),
      joins-long (first + 1) more (omega (arith, few)),
    )

moves-long : (seed players frame first more : ℕ) → first + more ≤ 65
    → length (events_text (map events.From (map (move_in seed players frame) (range_with_len first more)))) ≤ 33 * more
moves-long seed players frame first zero few = omega arith
moves-long seed players frame first (suc more) few =
    let rest = map events.From (map (move_in seed players frame) (range_with_len (first + 1) more)) in
    omega (
      arith,
      length-append (event_text (events.From (move_in seed players frame first))) (events_text rest),
      move-long seed players frame first (omega (arith, few)),
      moves-long seed players frame (first + 1) more (omega (arith, few)),
    )

moves_in-long : (seed players frame : ℕ) → players ≤ 64 → length (events_text (frame_events (moves_in seed players frame))) ≤ 6 + 33 * players
moves_in-long seed players frame few =
    omega (
      arith,
      length-append (event_text events.Frame) (events_text (map events.From (moves_in seed players frame))),
      moves-long seed players frame 1 players (omega (arith, few)),
    )

first-long : (seed players : ℕ) → players ≤ 64 → length (events_text (frame_events (arrivals_in seed players 0))) ≤ 6 + 46 * players
first-long seed players few =
    let joins = map join_from (ports players) in
    let moves = moves_in seed players 0 in
    omega (
      arith,
      length-append (event_text events.Frame) (events_text (map events.From (joins ++ moves))),
      ap (λ (es : List Event). length (events_text es)) (map-append events.From joins moves),
      text-append (map events.From joins) (map events.From moves),
      joins-long 1 players (omega (arith, few)),
      moves-long seed players 0 1 players (omega (arith, few)),
    )

later-long : (seed players frame : ℕ) → players ≤ 64 → 0 < frame → length (events_text (frame_events (arrivals_in seed players frame))) ≤ 6 + 33 * players
later-long seed players frame few later =
    omega (
      arith,
      ap (λ (arrivals : List Arrival). length (events_text (frame_events arrivals))) (later-is seed players frame later),
      moves_in-long seed players frame few,
    )

-- ---- all frames

frames-long : (seed players first more : ℕ) → players ≤ 64 → 0 < first
    → length (events_text (flat_map frame_events (map (arrivals_in seed players) (range_with_len first more)))) ≤ more * (6 + 33 * players)
frames-long seed players first zero few later = omega arith
frames-long seed players first (suc more) few later =
    omega (
      arith,
      text-append (frame_events (arrivals_in seed players first)) (flat_map frame_events (map (arrivals_in seed players) (range_with_len (first + 1) more))),
      later-long seed players first few later,
      frames-long seed players (first + 1) more few (omega arith),
    )

all-long : (seed players frames : ℕ) → players ≤ 64 → 1 ≤ frames
    → length (events_text (flat_map frame_events (generated_frames seed players frames))) ≤ 13 * players + frames * (6 + 33 * players)
all-long seed players zero few some = absurd (omega (arith, some))
all-long seed players (suc more) few some =
    omega (
      arith,
      text-append (frame_events (arrivals_in seed players 0)) (flat_map frame_events (map (arrivals_in seed players) (range_with_len 1 more))),
      first-long seed players few,
      frames-long seed players 1 more few (omega arith),
    )

pub texts_are_bounded : GeneratedTextsAreBounded
unfolding generated_events
texts_are_bounded seed players frames range =
    let of_map = unlines (map map_line_text generated_lines) in
    let packets = flat_map frame_events (generated_frames seed players frames) in
    omega (
      arith,
      ap length (sym (generated_text-parts seed players frames)),
      length-append of_map (events_text (generated_events seed players frames)),
      text-append packets (events.End ∷ []),
      whole-fits,
      all-long seed players frames range.few_players range.some_frames,
    )
