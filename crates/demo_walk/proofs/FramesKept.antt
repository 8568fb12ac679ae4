-- The frames in which players walk can be written, and are read back.
use Rattle.std.proofs.Common.{◌≡◌, ℕ, ◌+◌, ◌-◌, ◌≤◌, ◌<◌, Bool, true, false, cond, [], ◌∷◌, length, All, refl, ap, ◌∙◌, arith, length-append, subst}
use Rattle.std.specs.List.{range_with_len}
use Rattle.std.proofs.lemmas.List.Elements.{All-cons, All-nil, All-map, All-append, recursion_from_All}
use Rattle.std.proofs.lemmas.List.FromFn.{length-map-range_with_len}
use Rattle.arena_map.specs.Maps.{MapView, IsMap, is_ready}
use Rattle.demo_lines.specs.Spelling.{IsArrival, IsFrame}
use Rattle.demo_lines.specs.InTurn.{IsBuilt}
use Rattle.demo_lines.specs.Laws.{IsTextOf}
use Rattle.demo_lines.proofs.RecordingsRead.{read_in_turn}
use Rattle.demo_lines.proofs.Written.{packets_have_room}
use Rattle.bot_ways.specs.PlanTexts.{added_lines}
use Rattle.bot_ways.proofs.MapsBefore.{map-again, lines-accepted}
use Rattle.demo_make.specs.Words.{word_at}
use Rattle.demo_make.specs.GeneratedFrames.{IsInRange, join_from, ports}
use Rattle.demo_make.proofs.FramesKept.{move-arrival}
use Rattle.demo_make.proofs.MapKept.{range-all}
use Rattle.demo_walk.specs.WalkedFrames.{joined_by, joined_before, joins_in, words_before, move_in, moves_in, walked_in, walked_frames, frames_for, frames_on, walk_text}
use Rattle.demo_walk.specs.Laws.{WalksReadBack}
use Rattle.demo_walk.proofs.Schedules.{joined-more, joined-few}

join-arrival : (port : ℕ) → port ≤ 64 → IsArrival (join_from port)
join-arrival port few = record {
  port = omega arith;
  bytes = All-cons (λ b. b < 256) 1 (1 ∷ []) (omega arith) (All-cons (λ b. b < 256) 1 [] (omega arith) (All-nil (λ b. b < 256)));
  fits = packets_have_room.lowest (join_from port) (omega arith) (omega arith);
}

joins-are : (players places frame : ℕ) → players ≤ 64 → All IsArrival (joins_in players places frame)
joins-are players places frame few =
    let before = joined_before places players frame in
    let by = joined_by places players frame in
    All-map IsArrival join_from (range_with_len (before + 1) (by - before))
    (range-all (λ port. IsArrival (join_from port)) (before + 1) (by - before)
    (λ port _ below. join-arrival port (within before by port below (joined-more places players frame) (joined-few places players frame))))
  where
    within : (before by port : ℕ) → port < before + 1 + (by - before) → before ≤ by → by ≤ players → port ≤ 64
    within before by port below more less = omega (arith, below, more, less, few)

moves-are : (seed players places frame : ℕ) → players ≤ 64 → All IsArrival (moves_in seed players places frame)
moves-are seed players places frame few =
    let by = joined_by places players frame in
    All-map IsArrival (move_in seed players places frame) (ports by)
    (range-all (λ port. IsArrival (move_in seed players places frame port)) 1 by
    (λ port _ below. move-arrival (frame + 1) port (word_at seed (words_before places players frame + (port - 1)))
    (within by port below (joined-few places players frame))))
  where
    within : (by port : ℕ) → port < 1 + by → by ≤ players → port ≤ 64
    within by port below less = omega (arith, below, less, few)

frame-is : (seed players places frame : ℕ) → players ≤ 64 → IsFrame (walked_in seed players places frame)
frame-is seed players places frame few =
    let before = joined_before places players frame in
    let by = joined_by places players frame in
    record {
      few = number before by (length (joins_in players places frame)) (length (moves_in seed players places frame)) (length (walked_in seed players places frame))
          (length-append (joins_in players places frame) (moves_in seed players places frame))
          (length-map-range_with_len join_from (before + 1) (by - before))
          (length-map-range_with_len (move_in seed players places frame) 1 by)
          (joined-few places players frame);
      each = recursion_from_All IsArrival (walked_in seed players places frame)
          (All-append IsArrival (joins_in players places frame) (moves_in seed players places frame) (joins-are players places frame few)
          (moves-are seed players places frame few));
    }
  where
    number : (before by joins moves all : ℕ) → all ≡ joins + moves → joins ≡ by - before → moves ≡ by → by ≤ players → all ≤ 512
    number before by joins moves all sum js ms less = omega (arith, sum, js, ms, less, few)

frames-few : (m : MapView) (frames : ℕ) → frames ≤ 100000 → frames_for m frames ≤ 100000
frames-few m frames few = by (is_ready m)
  where
    by : (ready : Bool) → cond ready frames 0 ≤ 100000
    by true = few
    by false = omega arith

frames-ready : (m : MapView) (frames : ℕ) → 0 < frames_for m frames → is_ready m ≡ true
frames-ready m frames some = by (is_ready m) some
  where
    by : (ready : Bool) → 0 < cond ready frames 0 → ready ≡ true
    by true some = refl
    by false some = absurd (omega (arith, some))

frames-are : (seed players places frames : ℕ) → players ≤ 64 → All IsFrame (walked_frames seed players places frames)
frames-are seed players places frames few =
    All-map IsFrame (walked_in seed players places) (range_with_len 0 frames)
    (range-all (λ f. IsFrame (walked_in seed players places f)) 0 frames (λ f _ _. frame-is seed players places f few))

is-built : (m : MapView) (seed players frames : ℕ) → IsMap m → IsInRange players frames
    → IsBuilt m.bounds (added_lines m) (frames_on m seed players frames)
is-built m seed players frames is range =
    let count : length (frames_on m seed players frames) ≡ frames_for m frames = length-map-range_with_len _ 0 (frames_for m frames) in
    record {
      near = (is.lo, is.hi);
      wide = is.wide;
      accepted = lines-accepted m is;
      few = omega (arith, count, frames-few m frames range.few_frames);
      each = recursion_from_All IsFrame (frames_on m seed players frames) (frames-are seed players _ (frames_for m frames) range.few_players);
      spawn = λ some. ap is_ready (map-again m is) ∙ frames-ready m frames (omega (arith, count, some));
    }

pub walks_read_back : WalksReadBack
unfolding walk_text
walks_read_back m seed players frames is range =
    let packets = frames_on m seed players frames in
    subst (λ n. IsTextOf n packets (walk_text m seed players frames)) (map-again m is)
    (read_in_turn m.bounds (added_lines m) packets (is-built m seed players frames is range))
