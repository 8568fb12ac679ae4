-- What a walk has left before and after each event.
use Rattle.std.proofs.Common.{◌≡◌, ℕ, zero, suc, ◌+◌, ◌-◌, ◌<◌, ◌≤◌, Bool, true, false, List, [], ◌∷◌, ◌++◌, map, flat_map, refl, sym, ap, ◌∙◌, arith}
use Rattle.std.specs.List.{range_with_len}
use Rattle.packet_read.specs.declared.arrival.Arrival.{Arrival}
use Rattle.demo_lines.specs.declared.event.Event.{Event}
use Rattle.demo_lines.specs.declared.event.Event.TheVariants as events
use Rattle.demo_lines.specs.Spelling.{frame_events, recording_events}
use Rattle.demo_make.specs.GeneratedFrames.{join_from, ports}
use Rattle.demo_make.specs.Remaining.{end_unless, events_left}
use Rattle.demo_make.proofs.Steps.{range-first, frame-parts}
use Rattle.demo_walk.specs.WalkedFrames.{joined_by, joined_before, joins_in, move_in, moves_in, walked_in, walked_frames}
use Rattle.demo_walk.specs.Remaining.{left_after}
use Rattle.demo_walk.proofs.Schedules.{joined-more}

-- ---- packets

pub left-join : (seed players places opened frames joined joins moves : ℕ) (ended : Bool) → 0 < joins → joins ≤ joined
    → events_left (left_after seed players places opened frames joined joins moves ended)
    ≡ events.From (join_from (joined - joins + 1)) ∷ events_left (left_after seed players places opened frames joined (joins - 1) moves ended)
unfolding events_left
left-join seed players places opened frames joined joins moves ended some few = rw (range-first joined joins some few) refl

pub left-move : (seed players places opened frames joined joins moves : ℕ) (ended : Bool) → joins ≡ 0 → 0 < moves → moves ≤ joined
    → events_left (left_after seed players places opened frames joined joins moves ended)
    ≡ events.From (move_in seed players places (opened - 1) (joined - moves + 1))
    ∷ events_left (left_after seed players places opened frames joined joins (moves - 1) ended)
unfolding events_left
left-move seed players places opened frames joined joins moves ended none some few =
    rw none (rw (range-first joined moves some few) refl)

-- ---- a frame

-- the joins of the frame that is opened, from where the walk is then
joins-open : (before by joined now : ℕ) → joined ≡ before → before ≤ by → now ≡ by
    → map join_from (range_with_len (before + 1) (by - before)) ≡ map join_from (range_with_len (now - (now - joined) + 1) (now - joined))
joins-open before by joined now is few same =
    let first : before + 1 ≡ now - (now - joined) + 1 = omega (arith, is, few, same) in
    let count : by - before ≡ now - joined = omega (arith, is, few, same) in
    ap (λ n. map join_from (range_with_len n (by - before))) first
    ∙ ap (λ n. map join_from (range_with_len (now - (now - joined) + 1) n)) count

-- and its moves
moves-open : (seed players places opened by now : ℕ) → now ≡ by
    → map (move_in seed players places opened) (ports by)
    ≡ map (move_in seed players places (opened + 1 - 1)) (range_with_len (now - now + 1) now)
moves-open seed players places opened by now same =
    let frame : opened ≡ opened + 1 - 1 = omega arith in
    let first : 1 ≡ now - now + 1 = omega arith in
    ap (λ f. map (move_in seed players places f) (range_with_len 1 by)) frame
    ∙ ap (λ n. map (move_in seed players places (opened + 1 - 1)) (range_with_len n by)) first
    ∙ ap (λ n. map (move_in seed players places (opened + 1 - 1)) (range_with_len (now - now + 1) n)) (sym same)

pub left-open : (seed players places opened frames joined joins moves now : ℕ) (ended : Bool) → joins ≡ 0 → moves ≡ 0 → 0 < frames
    → joined ≡ joined_before places players opened → now ≡ joined_by places players opened
    → events_left (left_after seed players places opened frames joined joins moves ended)
    ≡ events.Frame ∷ events_left (left_after seed players places (opened + 1) (frames - 1) now (now - joined) now ended)
unfolding events_left
left-open seed players places opened zero joined joins moves now ended no_join no_move some is same = absurd (omega arith)
left-open seed players places opened (suc more) joined joins moves now ended no_join no_move some is same =
    let js = joins_in players places opened in
    let ms = moves_in seed players places opened in
    let rest : ℕ → List Event = λ n. flat_map frame_events (map (walked_in seed players places) (range_with_len (opened + 1) n)) in
    let less : more ≡ suc more - 1 = omega arith in
    rw no_join (rw no_move
    (frame-parts js ms (rest more) (end_unless ended)
    ∙ ap (λ (js2 : List Arrival). events.Frame ∷ map events.From js2 ++ (map events.From ms ++ (rest more ++ end_unless ended)))
    (joins-open (joined_before places players opened) (joined_by places players opened) joined now is (joined-more places players opened) same)
    ∙ ap (λ (ms2 : List Arrival). events.Frame ∷ map events.From (map join_from (range_with_len (now - (now - joined) + 1) (now - joined))) ++ (map events.From ms2 ++ (rest more ++ end_unless ended)))
    (moves-open seed players places opened (joined_by places players opened) now same)
    ∙ ap (λ n. events.Frame ∷ map events.From (map join_from (range_with_len (now - (now - joined) + 1) (now - joined)))
    ++ (map events.From (map (move_in seed players places (opened + 1 - 1)) (range_with_len (now - now + 1) now)) ++ (rest n ++ end_unless ended))) less))

-- ---- the end

pub left-end : (seed players places opened frames joined joins moves : ℕ) → joins ≡ 0 → moves ≡ 0 → frames ≡ 0
    → events_left (left_after seed players places opened frames joined joins moves false)
    ≡ events.End ∷ events_left (left_after seed players places opened frames joined joins moves true)
unfolding events_left
left-end seed players places opened frames joined joins moves no_join no_move no_frame = rw no_join (rw no_move (rw no_frame refl))

pub left-done : (seed players places opened frames joined joins moves : ℕ) → joins ≡ 0 → moves ≡ 0 → frames ≡ 0
    → events_left (left_after seed players places opened frames joined joins moves true) ≡ []
unfolding events_left
left-done seed players places opened frames joined joins moves no_join no_move no_frame = rw no_join (rw no_move (rw no_frame refl))

pub left-start : (seed players places frames : ℕ)
    → events_left (left_after seed players places 0 frames 0 0 0 false) ≡ recording_events (walked_frames seed players places frames)
unfolding events_left
left-start seed players places frames = refl
