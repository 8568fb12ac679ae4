-- The rooms of a machine are those given.
use Rattle.std.proofs.Common.{◌≡◌, ℕ, zero, suc, ◌+◌, ◌<◌, if◌then◌else◌, List, [], ◌∷◌, ◌++◌, map, refl, sym, ap, ◌∙◌, subst, arith, append_assoc, append-nil, Option, Some, None}
use Rattle.std.specs.List.{range_with_len}
use Rattle.std.proofs.lemmas.Bool.{ne_eqb}
use Rattle.std.proofs.lemmas.List.FromFn.{map-range_with_len_more}
use Rattle.core_steps.specs.Cells.{put}
use Rattle.core_steps.specs.Nodes.{Fixed}
use Rattle.core_steps.specs.Reads.{Ended, View, new_view}
use Rattle.core_steps.specs.Steps.{Core, make_seat}
use Rattle.core_steps.specs.Stands.{start_core}
use Rattle.core_steps.specs.Machine.{Machine, Next, next_of, core_after}
use Rattle.core_steps.specs.Calls.{with_seats, start_machine, Call, Give, Go, GiveUp, gone_on, after_call, after_calls}
use Rattle.core_steps.specs.MachineLaws.{ended_room, room_of, rooms_of, RoomsAreThoseGiven}
use Rattle.core_steps.proofs.Puts.{put_same, put_other, kept_put}
use Rattle.core_steps.proofs.SameSeats.{SeatPart, seat_part, same_seats}

-- two functions that are the same below a number give the same list
same_below : (f g : ℕ → ℕ) (n : ℕ) → ((k : ℕ) → k < n → f k ≡ g k) → map f (range_with_len 0 n) ≡ map g (range_with_len 0 n)
same_below f g zero same = refl
same_below f g (suc n) same =
    let at : n + 1 ≡ suc n = omega arith in
    let before = same_below f g n (λ k below. same k (omega arith)) in
    subst (λ (m : ℕ). map f (range_with_len 0 m) ≡ map g (range_with_len 0 m)) at
    (map-range_with_len_more f 0 n n (omega arith)
    ∙ ap (λ (ns : List ℕ). ns ++ f n ∷ []) before ∙ ap (λ (room : ℕ). map g (range_with_len 0 n) ++ room ∷ []) (same n (omega arith))
    ∙ sym (map-range_with_len_more g 0 n n (omega arith)))

-- ---- views that have the same rooms

-- the room under a number, where these are the parts of its seat and of seat 0
abbrev room_in : SeatPart → SeatPart → ℕ → ℕ
room_in part first n = if part.live then part.room else ended_room first.ended n

same_room : (old new : ℕ → View) → ((j : ℕ) → seat_part (new j) ≡ seat_part (old j)) → (n : ℕ) → room_of new n ≡ room_of old n
same_room old new same n = ap (λ (part : SeatPart). room_in part (seat_part (new 0)) n) (same n) ∙ ap (λ (first : SeatPart). room_in (seat_part (old n)) first n) (same 0)

same_rooms : (old new : ℕ → View) → ((j : ℕ) → seat_part (new j) ≡ seat_part (old j)) → rooms_of new ≡ rooms_of old
same_rooms old new same =
    ap (λ (first : SeatPart). map (room_of new) (range_with_len 0 first.made)) (same 0)
    ∙ same_below (room_of new) (room_of old) (old 0).made (λ n _. same_room old new same n)

-- ---- calls

same_gone_on : (F : Fixed) (m : Machine) (i : ℕ) (next : Option Next) → rooms_of (gone_on F m i next).core.view ≡ rooms_of m.core.view
same_gone_on F m i None = refl
same_gone_on F m i (Some next) = same_rooms m.core.view (core_after F m.core i next).view (same_seats F m.core i next)

same_after_call : (F : Fixed) (m : Machine) (call : Call) → rooms_of (after_call F m call).core.view ≡ rooms_of m.core.view
same_after_call F m (Give i c) = refl
same_after_call F m (Go i) = same_gone_on F m i (next_of F m i)
same_after_call F m (GiveUp i) = refl

same_after_calls : (F : Fixed) (m : Machine) (calls : List Call) → rooms_of (after_calls F m calls).core.view ≡ rooms_of m.core.view
same_after_calls F m [] = refl
same_after_calls F m (call ∷ calls) = same_after_calls F (after_call F m call) calls ∙ same_after_call F m call

-- ---- the start

-- a seat that is made adds its room at the end
rooms_made : (core : Core) (room : ℕ) → 0 < (core.view 0).made → rooms_of (make_seat core room).view ≡ rooms_of core.view ++ room ∷ []
rooms_made core room some =
    let made = (core.view 0).made in
    let more = record (core.view 0) { made = suc made } in
    let new = (make_seat core room).view in
    let at : made + 1 ≡ suc made = omega arith in
    let first : new 0 ≡ more = put_other made 0 (new_view room) (put 0 more core.view) (ne_eqb 0 made (λ same. absurd (omega (arith, some, same)))) ∙ put_same 0 more core.view in
    let last : room_of new made ≡ room = ap (λ (v : View). if v.live then v.room else ended_room (new 0).ended made) (put_same made (new_view room) (put 0 more core.view)) in
    let before : (n : ℕ) → n < made → room_of new n ≡ room_of core.view n =
    λ n below.
    ap (λ (v : View). if v.live then v.room else ended_room (new 0).ended n) (put_other made n (new_view room) (put 0 more core.view) (ne_eqb n made (λ same. absurd (omega (arith, below, same)))))
    ∙ ap (λ (e : List Ended). if (put 0 more core.view n).live then (put 0 more core.view n).room else ended_room e n) (ap (λ (v : View). v.ended) first)
    ∙ kept_put (λ (v : View). if v.live then v.room else ended_room (core.view 0).ended n) 0 more core.view refl n in
    ap (λ (v : View). map (room_of new) (range_with_len 0 v.made)) first
    ∙ subst (λ (n : ℕ). map (room_of new) (range_with_len 0 n) ≡ map (room_of core.view) (range_with_len 0 made) ++ room ∷ []) at
    (map-range_with_len_more (room_of new) 0 made made (omega arith)
    ∙ ap (λ (ns : List ℕ). ns ++ room_of new made ∷ []) (same_below (room_of new) (room_of core.view) made before)
    ∙ ap (λ (last : ℕ). map (room_of core.view) (range_with_len 0 made) ++ last ∷ []) last)

-- and one more number is given out
some_made : (core : Core) (room : ℕ) → 0 < (core.view 0).made → 0 < ((make_seat core room).view 0).made
some_made core room some =
    let made = (core.view 0).made in
    let more = record (core.view 0) { made = suc made } in
    let first = put_other made 0 (new_view room) (put 0 more core.view) (ne_eqb 0 made (λ same. absurd (omega (arith, some, same)))) ∙ put_same 0 more core.view in
    subst (λ (v : View). 0 < v.made) (sym first) (omega arith)

rooms_with : (core : Core) (rooms : List ℕ) → 0 < (core.view 0).made → rooms_of (with_seats core rooms).view ≡ rooms_of core.view ++ rooms
rooms_with core [] some = sym (append-nil (rooms_of core.view))
rooms_with core (room ∷ rooms) some =
    rooms_with (make_seat core room) rooms (some_made core room some)
    ∙ ap (λ (ns : List ℕ). ns ++ rooms) (rooms_made core room some)
    ∙ append_assoc (rooms_of core.view) (room ∷ []) rooms

pub rooms_are_those_given : RoomsAreThoseGiven
rooms_are_those_given F room rooms calls =
    same_after_calls F (start_machine F room rooms) calls ∙ rooms_with (start_core F room) rooms (omega arith)
