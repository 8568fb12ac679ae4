-- The moves of each slot in a frame: their numbers, and how many they are.
use Rattle.std.proofs.Common.{◌≡◌, ◌≢◌, ◌⊎◌, ℕ, suc, ◌+◌, ◌<◌, ◌≤◌, ◌==◌, Bool, true, false, cond, List, [], ◌∷◌, ◌++◌, length, filter, All, Option, Some, None, is_some, IsSome, slice_index, sym, refl, ap, ◌∙◌, subst, inl, inr, arith}
use Rattle.std.specs.Prelude.{map as map_list}
use Rattle.std.specs.List.{count_by, IsDistinct, AllByRecursion}
use Rattle.std.proofs.lemmas.List.Sums.{sum_by-cons}
use Rattle.std.specs.List.Sorted.{IsStrictlyIncreasing}
use Rattle.std.proofs.lemmas.Bool.{cases_eq, eqb-true, eq-eqb, ne_eqb, and_left, and_right}
use Rattle.std.proofs.lemmas.List.{append-nil, append_assoc, get_or_append_left, get_or_push, get_or-set_same, length_push, length-map, map-append}
use Rattle.std.proofs.lemmas.List.Elements.{All-append, All-cons, All-get_or, All-head, All-nil, All-push, All-same, All-tail, All-weaker, filter-append}
use Rattle.std.proofs.lemmas.List.Kept.{AllPairs-from_increasing}
use Rattle.entity_recs.specs.Commands.{Command, is_same_move}
use Rattle.arena_map.specs.Maps.{MapView}
use Rattle.packet_read.specs.declared.arrival.Arrival.{Arrival}
use Rattle.client_ports.specs.declared.client.Client.{Client}
use Rattle.client_ports.specs.declared.client.LiveSlot.{LiveSlot}
use Rattle.packet_read.specs.declared.move_packet.MovePacket.{MovePacket}
use Rattle.packet_read.specs.Commands.{commands_of}
use Rattle.client_ports.specs.NewMoves.{numbers_in, last_in, RiseFrom}
use Rattle.client_ports.specs.Clients.{client, client_at, live_slot, new_client, with_client, AreClients}
use Rattle.client_ports.specs.States.{State}
use Rattle.client_ports.specs.Lists.{Lists}
use Rattle.client_ports.specs.Receiving.{Receiving, after_arrival, after_arrivals, received}
use Rattle.client_ports.specs.Laws.{AreAccepted, IsAcceptedLeave, IsRefused, IsJoined, IsLeave, AreCommandsOf, IsMove}
use Rattle.client_ports.specs.Frames.{last_of, move_count, numbers_of, IsAdvance, NumbersAreAcceptedOnce}
use Rattle.client_ports.proofs.Facts.{one_answer}
use Rattle.client_ports.proofs.Slots.{read-set}
use Rattle.client_ports.proofs.Changes.{live-inside, IsNewcomer, join-newcomer}

-- ---- what a packet does to a slot

-- the slot's client keeps its last number and how many moves it has
record IsKept (before after : Option Client) : Type 0 where
  live : IsSome before → IsSome after
  last : last_of after ≡ last_of before
  count : move_count after ≡ move_count before

-- it has as many moves more as there are numbers, which rise from its last number to the new one
record IsRaised (before after : Option Client) (numbers : List ℕ) : Type 0 where
  live : IsSome after
  rise : RiseFrom (last_of before) numbers
  last : last_of after ≡ last_in (last_of before) numbers
  count : move_count after ≡ move_count before + length numbers

kept-same : (before after : Option Client) → after ≡ before → IsKept before after
kept-same before after e = record { live = λ h. ap is_some e ∙ h; last = ap last_of e; count = ap move_count e }

kept-join : (clients : List (Option Client)) (port slot k : ℕ) → IsNewcomer clients port slot → IsKept (client_at clients k) (client_at (with_client clients (live_slot slot (new_client port))) k)
kept-join clients port slot k new = elim (read-set clients slot k (Some (new_client port))) [
  | inl at ↦
      let none = ap (client_at clients) at.0 ∙ new.free in
      record { live = λ h. ap is_some at.2; last = ap last_of at.2 ∙ sym (ap last_of none); count = ap move_count at.2 ∙ sym (ap move_count none) }
  | inr same ↦ kept-same (client_at clients k) (client_at (with_client clients (live_slot slot (new_client port))) k) same
]

kept-leave : (clients : List (Option Client)) (live : LiveSlot) (k : ℕ) → IsAcceptedLeave clients live → IsKept (client_at clients k) (client_at (with_client clients live) k)
kept-leave clients live k by = elim (read-set clients live.slot k (Some live.client)) [
  | inl at ↦
      let was = ap (client_at clients) at.0 ∙ by.in_slot in
      let now = at.2 ∙ ap Some by.is in
      record { live = λ h. ap is_some at.2; last = ap last_of now ∙ sym (ap last_of was); count = ap move_count now ∙ sym (ap move_count was) }
  | inr same ↦ kept-same (client_at clients k) (client_at (with_client clients live) k) same
]

kept-other : (clients : List (Option Client)) (live : LiveSlot) (k : ℕ) → k ≢ live.slot → IsKept (client_at clients k) (client_at (with_client clients live) k)
kept-other clients live k other = elim (read-set clients live.slot k (Some live.client)) [
  | inl at ↦ absurd (other at.0)
  | inr same ↦ kept-same (client_at clients k) (client_at (with_client clients live) k) same
]

raised-move : (clients : List (Option Client)) (steps new : List MovePacket) (live : LiveSlot) → AreAccepted clients steps new live
    → IsRaised (client_at clients live.slot) (client_at (with_client clients live) live.slot) (numbers_in new)
raised-move clients steps new live by =
    let inside = live-inside clients live.slot by.was by.in_slot in
    let now : client_at (with_client clients live) live.slot ≡ Some (client by.was.port (last_in by.was.last (numbers_in new)) false (by.was.moves + length new)) = written inside ∙ ap Some by.is in
    let was : last_of (client_at clients live.slot) ≡ by.was.last = ap last_of by.in_slot in
    record {
      live = ap is_some now;
      rise = subst (λ (n : ℕ). RiseFrom n (numbers_in new)) (sym was) by.rise;
      last = ap last_of now ∙ ap (λ (n : ℕ). last_in n (numbers_in new)) (sym was);
      count = let e = ap move_count by.in_slot in let f = ap move_count now in let n = length-map new (λ (m : MovePacket). m.seq) in omega (arith, e, f, n);
    }
  where
    written : live.slot < length clients → client_at (with_client clients live) live.slot ≡ Some live.client
    written inside = elim (read-set clients live.slot live.slot (Some live.client)) [
      | inl at ↦ at.2
      | inr same ↦ get_or-set_same clients live.slot (Some live.client) None inside
    ]

-- ---- the numbers

numbers-append : (slot : ℕ) (moves more : List Command) → numbers_of slot (moves ++ more) ≡ numbers_of slot moves ++ numbers_of slot more
numbers-append slot moves more =
    ap (map_list (λ d. d.seq)) (filter-append own moves more) ∙ map-append (λ d. d.seq) (filter own moves) (filter own more)
  where
    own : Command → Bool
    own d = d.slot == slot

-- the numbers of commands that are all of this slot
numbers-own : (frame slot : ℕ) (steps : List MovePacket) (commands : List Command) → AreCommandsOf frame slot steps commands → numbers_of slot commands ≡ numbers_in steps
numbers-own frame slot [] [] are = refl
numbers-own frame slot [] (c ∷ commands) are = absurd are
numbers-own frame slot (m ∷ steps) [] are = absurd are
numbers-own frame slot (m ∷ steps) (c ∷ commands) are =
    ap (λ (b : Bool). map_list (λ d. d.seq) (cond b (c ∷ filter (λ d. d.slot == slot) commands) (filter (λ d. d.slot == slot) commands))) (eq-eqb c.slot slot are.0.in_slot)
    ∙ ap (λ (n : ℕ). n ∷ numbers_of slot commands) are.0.seq
    ∙ ap (λ (l : List ℕ). m.seq ∷ l) (numbers-own frame slot steps commands are.1)

-- and of those that are of another
numbers-other : (frame slot other : ℕ) (steps : List MovePacket) (commands : List Command) → AreCommandsOf frame other steps commands → slot ≢ other → numbers_of slot commands ≡ []
numbers-other frame slot other [] [] are apart = refl
numbers-other frame slot other [] (c ∷ commands) are apart = absurd are
numbers-other frame slot other (m ∷ steps) [] are apart = absurd are
numbers-other frame slot other (m ∷ steps) (c ∷ commands) are apart =
    ap (λ (b : Bool). map_list (λ d. d.seq) (cond b (c ∷ filter (λ d. d.slot == slot) commands) (filter (λ d. d.slot == slot) commands))) (ne_eqb c.slot slot (λ e. apart (sym e ∙ are.0.in_slot)))
    ∙ numbers-other frame slot other steps commands are.1 apart

-- ---- a packet at a slot

-- nothing is accepted there, or some moves
abbrev Step : Option Client → Option Client → List ℕ → List ℕ → Type 0
Step before after old new = (IsKept before after × (new ≡ old)) ⊎ ((numbers : List ℕ) × IsRaised before after numbers × (new ≡ old ++ numbers))

step : (map : MapView) (frame : ℕ) (r : Receiving) (place : ℕ) (a : Arrival) (k : ℕ) → let next = after_arrival map frame r place a in
    Step (client_at r.state.clients k) (client_at next.state.clients k) (numbers_of k r.lists.moves) (numbers_of k next.lists.moves)
step map frame r place a k = by (one_answer map frame r place a)
  where
    next : Receiving
    next = after_arrival map frame r place a

    Goal : Type 0
    Goal = Step (client_at r.state.clients k) (client_at next.state.clients k) (numbers_of k r.lists.moves) (numbers_of k next.lists.moves)

    moves-same : (l : Lists) → next.lists ≡ l → l.moves ≡ r.lists.moves → numbers_of k next.lists.moves ≡ numbers_of k r.lists.moves
    moves-same l e same = ap (λ (m : Lists). numbers_of k m.moves) e ∙ ap (numbers_of k) same

    clients-are : (s : State) → next.state ≡ s → IsKept (client_at r.state.clients k) (client_at s.clients k) → IsKept (client_at r.state.clients k) (client_at next.state.clients k)
    clients-are s e kept = subst (λ (t : State). IsKept (client_at r.state.clients k) (client_at t.clients k)) (sym e) kept

    moved : IsMove frame r next a → Goal
    moved m = at (cases_eq k m.live.slot)
      where
        all : numbers_of k next.lists.moves ≡ numbers_of k r.lists.moves ++ numbers_of k m.commands
        all = ap (λ (l : Lists). numbers_of k l.moves) m.lists ∙ numbers-append k r.lists.moves m.commands

        at : (k ≡ m.live.slot) ⊎ (k ≢ m.live.slot) → Goal
        at (inl same) = inr (
          numbers_in m.new,
          subst (λ (s : State). IsRaised (client_at r.state.clients k) (client_at s.clients k) (numbers_in m.new)) (sym m.state)
              (subst (λ (j : ℕ). IsRaised (client_at r.state.clients j) (client_at (with_client r.state.clients m.live) j) (numbers_in m.new)) (sym same)
              (raised-move r.state.clients (commands_of m.packet) m.new m.live m.accepted)),
          all ∙ ap (λ (l : List ℕ). numbers_of k r.lists.moves ++ l) (numbers-own frame k m.new m.commands (subst (λ (j : ℕ). AreCommandsOf frame j m.new m.commands) (sym same) m.of_packet)),
        )
        at (inr other) = inl (
          clients-are _ m.state (kept-other r.state.clients m.live k other),
          all ∙ ap (λ (l : List ℕ). numbers_of k r.lists.moves ++ l) (numbers-other frame k m.live.slot m.new m.commands m.of_packet other) ∙ append-nil (numbers_of k r.lists.moves),
        )

    by : (IsRefused r next place ⊎ IsJoined map r next a) ⊎ (IsLeave r next a ⊎ IsMove frame r next a) → Goal
    by (inl (inl f)) = inl (clients-are _ f.state (kept-same (client_at r.state.clients k) (client_at r.state.clients k) refl), moves-same _ f.lists refl)
    by (inl (inr j)) = inl (
      clients-are _ j.state (kept-join r.state.clients a.port j.to.slot k (join-newcomer map r.state a.port j.to j.answer)),
      moves-same _ j.lists refl,
    )
    by (inr (inl l)) = inl (clients-are _ l.state (kept-leave r.state.clients l.live k l.accepted), moves-same _ l.lists refl)
    by (inr (inr m)) = moved m

-- ---- rising numbers

pub rising-one : (n : ℕ) → IsStrictlyIncreasing (n ∷ [])
rising-one n k below = absurd (omega (arith, below))

-- one number more, above all that are there
pub rising-push : (xs : List ℕ) (m n : ℕ) → IsStrictlyIncreasing xs → All (λ x. x ≤ m) xs → m < n → IsStrictlyIncreasing (xs ++ n ∷ [])
rising-push xs m n rise below above k more = by (cases_eq (k + 1) (length xs))
  where
    long : length (xs ++ n ∷ []) ≡ length xs + 1
    long = length_push xs n

    at : (i : ℕ) → i < length xs → slice_index (xs ++ n ∷ []) i ≡ slice_index xs i
    at i inside = get_or_append_left xs (n ∷ []) 0 i inside

    by : (k + 1 ≡ length xs) ⊎ (k + 1 ≢ length xs) → slice_index (xs ++ n ∷ []) k < slice_index (xs ++ n ∷ []) (k + 1)
    by (inl end) =
        let inside : k < length xs = omega (arith, end) in
        let first : slice_index (xs ++ n ∷ []) k ≡ slice_index xs k = at k inside in
        let last : slice_index (xs ++ n ∷ []) (k + 1) ≡ n = get_or_push xs n 0 (k + 1) (sym end) in
        let least : slice_index xs k ≤ m = All-get_or (λ x. x ≤ m) xs k 0 inside below in
        omega (arith, first, last, least, above)
    by (inr other) =
        let inside : k + 1 < length xs = omega (arith, other, long, more) in
        let first : slice_index (xs ++ n ∷ []) k ≡ slice_index xs k = at k (omega (arith, inside)) in
        let last : slice_index (xs ++ n ∷ []) (k + 1) ≡ slice_index xs (k + 1) = at (k + 1) inside in
        let less : slice_index xs k < slice_index xs (k + 1) = rise k inside in
        omega (arith, first, last, less)

last-push : (n : ℕ) (xs : List ℕ) (m : ℕ) → last_in n (xs ++ m ∷ []) ≡ m
last-push n [] m = refl
last-push n (x ∷ xs) m = last-push x xs m

-- from a start on numbers came, the last of which this is, and so many moves
record IsReached (start : Option Client) (last count : ℕ) (numbers : List ℕ) : Type 0 where
  rise : IsStrictlyIncreasing (last_of start ∷ numbers)
  last_is : last ≡ last_in (last_of start) numbers
  count_is : count ≡ move_count start + length numbers
  most : All (λ n. n ≤ last) (last_of start ∷ numbers)

reached-one : (start : Option Client) (last count : ℕ) (numbers : List ℕ) (n : ℕ) → IsReached start last count numbers → last < n → IsReached start n (count + 1) (numbers ++ n ∷ [])
reached-one start last count numbers n so_far above =
    let all = last_of start ∷ numbers in
    record {
      rise = rising-push all last n so_far.rise so_far.most above;
      last_is = sym (last-push (last_of start) numbers n);
      count_is = omega (arith, so_far.count_is, length_push numbers n);
      most = All-push (λ m. m ≤ n) all n (All-weaker (λ m. m ≤ last) (λ m. m ≤ n) (λ m h. omega (arith, h, above)) all so_far.most) (omega arith);
    }

reached-all : (start : Option Client) (last count : ℕ) (numbers more : List ℕ) → IsReached start last count numbers → RiseFrom last more
    → IsReached start (last_in last more) (count + length more) (numbers ++ more)
reached-all start last count numbers [] so_far rise =
    let same : count ≡ count + 0 = omega arith in
    subst (λ (l : List ℕ). IsReached start last (count + 0) l) (sym (append-nil numbers)) (subst (λ (k : ℕ). IsReached start last k numbers) same so_far)
reached-all start last count numbers (n ∷ more) so_far rise =
    let next = reached-all start n (count + 1) (numbers ++ n ∷ []) more (reached-one start last count numbers n so_far rise.0) rise.1 in
    let same : count + 1 + length more ≡ count + length (n ∷ more) = omega arith in
    subst (λ (l : List ℕ). IsReached start (last_in n more) (count + length (n ∷ more)) l) (append_assoc numbers (n ∷ []) more)
    (subst (λ (k : ℕ). IsReached start (last_in n more) k ((numbers ++ n ∷ []) ++ more)) same next)

-- a slot through the packets so far: it advances, and no number is above the last one
IsFollowed : Option Client → Option Client → List ℕ → Type 0
IsFollowed start now numbers = IsReached start (last_of now) (move_count now) numbers

followed-start : (start : Option Client) → IsFollowed start start []
unfolding IsFollowed
followed-start start = record {
  rise = rising-one (last_of start);
  last_is = refl;
  count_is = omega arith;
  most = All-cons (λ n. n ≤ last_of start) (last_of start) [] (omega arith) (All-nil (λ n. n ≤ last_of start));
}

followed-step : (start before after : Option Client) (old new : List ℕ) → IsFollowed start before old → Step before after old new → IsFollowed start after new
unfolding IsFollowed
followed-step start before after old new so_far (inl same) =
    let kept = same.0 in
    subst (λ (l : List ℕ). IsReached start (last_of after) (move_count after) l) (sym same.1)
    (subst (λ (n : ℕ). IsReached start n (move_count after) old) (sym kept.last) (subst (λ (k : ℕ). IsReached start (last_of before) k old) (sym kept.count) so_far))
followed-step start before after old new so_far (inr more) =
    let numbers = more.0 in
    let raised = more.1 in
    let next = reached-all start (last_of before) (move_count before) old numbers so_far raised.rise in
    subst (λ (l : List ℕ). IsReached start (last_of after) (move_count after) l) (sym more.2)
    (subst (λ (n : ℕ). IsReached start n (move_count after) (old ++ numbers)) (sym raised.last)
    (subst (λ (k : ℕ). IsReached start (last_in (last_of before) numbers) k (old ++ numbers)) (sym raised.count) next))

followed : (arena : MapView) (frame slot : ℕ) (start : Option Client) (r : Receiving) (place : ℕ) (arrivals : List Arrival)
    → IsFollowed start (client_at r.state.clients slot) (numbers_of slot r.lists.moves)
    → let all = after_arrivals arena frame r place arrivals in IsFollowed start (client_at all.state.clients slot) (numbers_of slot all.lists.moves)
followed arena frame slot start r place [] so_far = so_far
followed arena frame slot start r place (a ∷ more) so_far =
    let next = after_arrival arena frame r place a in
    followed arena frame slot start next (place + 1) more
    (followed-step start (client_at r.state.clients slot) (client_at next.state.clients slot) (numbers_of slot r.lists.moves) (numbers_of slot next.lists.moves) so_far (step arena frame r place a slot))

-- the last number after a frame is at least each of its numbers, and the last one before it
pub numbers_most : (arena : MapView) (frame : ℕ) (state : State) (arrivals : List Arrival) (slot : ℕ)
    → let next = received arena frame state arrivals in
    All (λ n. n ≤ last_of (client_at next.state.clients slot)) (last_of (client_at state.clients slot) ∷ numbers_of slot next.lists.moves)
unfolding received IsFollowed
numbers_most arena frame state arrivals slot = (followed arena frame slot (client_at state.clients slot) _ 0 arrivals (followed-start (client_at state.clients slot))).most

-- the accepted numbers of each slot rise in a frame
pub numbers_rise : (arena : MapView) (frame : ℕ) (state : State) (arrivals : List Arrival) (slot : ℕ)
    → let next = received arena frame state arrivals in IsAdvance (client_at state.clients slot) (client_at next.state.clients slot) (numbers_of slot next.lists.moves)
unfolding received IsFollowed
numbers_rise arena frame state arrivals slot =
    let all = followed arena frame slot (client_at state.clients slot) _ 0 arrivals (followed-start (client_at state.clients slot)) in
    record { rise = all.rise; last = all.last_is; count = all.count_is }

-- ---- numbers are apart

-- a number above is another move
above-apart : (c : Command) (moves : List Command) → All (λ n. c.seq < n) (numbers_of c.slot moves) → AllByRecursion (λ d. is_same_move c d ≡ false) moves
above-apart c [] above = tt
above-apart c (d ∷ moves) above = by (d.slot == c.slot) refl above (λ h. above-apart c moves h)
  where
    by : (own : Bool) → (d.slot == c.slot) ≡ own → All (λ n. c.seq < n) (map_list (λ e. e.seq) (cond own (d ∷ filter (λ e. e.slot == c.slot) moves) (filter (λ e. e.slot == c.slot) moves)))
        → (All (λ n. c.seq < n) (numbers_of c.slot moves) → AllByRecursion (λ e. is_same_move c e ≡ false) moves) → AllByRecursion (λ e. is_same_move c e ≡ false) (d ∷ moves)
    by true own h more =
        let less : c.seq < d.seq = All-head (λ n. c.seq < n) d.seq (numbers_of c.slot moves) h in
        (and_right (c.slot == d.slot) (c.seq == d.seq) (ne_eqb c.seq d.seq (λ e. omega (arith, less, e))), more (All-tail (λ n. c.seq < n) d.seq (numbers_of c.slot moves) h))
    by false own h more = (and_left (c.slot == d.slot) (c.seq == d.seq) (ne_eqb c.slot d.slot (λ e. other own (sym e))), more h)
      where
        other : (d.slot == c.slot) ≡ false → d.slot ≡ c.slot → ⊥
        other f e = true-false (sym (eq-eqb d.slot c.slot e) ∙ f)
          where
            true-false : true ≡ false → ⊥
            true-false h = cc

rising-head : (n : ℕ) (xs : List ℕ) → IsStrictlyIncreasing (n ∷ xs) → All (λ m. n < m) xs
rising-head n xs rise = λ k d inside. AllPairs-from_increasing (n ∷ xs) rise 0 (suc k) d (omega arith) (omega (arith, inside))

rising-tail : (n : ℕ) (xs : List ℕ) → IsStrictlyIncreasing (n ∷ xs) → IsStrictlyIncreasing xs
rising-tail n xs rise = λ k below.
    let next : suc k + 1 < length (n ∷ xs) = omega (arith, below) in
    let e : suc k + 1 ≡ suc (k + 1) = omega arith in
    subst (λ (j : ℕ). slice_index (n ∷ xs) (suc k) < slice_index (n ∷ xs) j) e (rise (suc k) next)

-- the numbers of a slot with those of a move before, if it is the slot's
abbrev numbers_with : Command → List Command → ℕ → Bool → List ℕ
numbers_with c moves slot own = map_list (λ e. e.seq) (cond own (c ∷ filter (λ e. e.slot == slot) moves) (filter (λ e. e.slot == slot) moves))

-- where each slot's numbers rise, no two moves share slot and number
apart-where_rising : (moves : List Command) → ((slot : ℕ) → IsStrictlyIncreasing (numbers_of slot moves)) → IsDistinct is_same_move moves
unfolding IsDistinct
apart-where_rising [] rise = tt
apart-where_rising (c ∷ moves) rise = (above-apart c moves (rising-head c.seq (numbers_of c.slot moves) own), apart-where_rising moves rest)
  where
    own : IsStrictlyIncreasing (c.seq ∷ numbers_of c.slot moves)
    own = subst (λ (b : Bool). IsStrictlyIncreasing (numbers_with c moves c.slot b)) (eq-eqb c.slot c.slot refl) (rise c.slot)

    rest : (slot : ℕ) → IsStrictlyIncreasing (numbers_of slot moves)
    rest slot = by (c.slot == slot) (rise slot)
      where
        by : (own : Bool) → IsStrictlyIncreasing (numbers_with c moves slot own) → IsStrictlyIncreasing (numbers_of slot moves)
        by true h = rising-tail c.seq (numbers_of slot moves) h
        by false h = h

-- each number is above the last one before the frame
pub numbers_above : (arena : MapView) (frame : ℕ) (state : State) (arrivals : List Arrival) (slot : ℕ)
    → All (λ n. last_of (client_at state.clients slot) < n) (numbers_of slot (received arena frame state arrivals).lists.moves)
numbers_above arena frame state arrivals slot =
    rising-head (last_of (client_at state.clients slot)) (numbers_of slot (received arena frame state arrivals).lists.moves) (numbers_rise arena frame state arrivals slot).rise

-- no two accepted moves of a frame share slot and number
pub numbers_apart : (arena : MapView) (frame : ℕ) (state : State) (arrivals : List Arrival) → IsDistinct is_same_move (received arena frame state arrivals).lists.moves
numbers_apart arena frame state arrivals =
    let moves = (received arena frame state arrivals).lists.moves in
    apart-where_rising moves (λ slot. rising-tail (last_of (client_at state.clients slot)) (numbers_of slot moves) (numbers_rise arena frame state arrivals slot).rise)

-- ---- a number is accepted once

-- one number more, which is below the others
once-more : (last m : ℕ) (numbers : List ℕ) (n : ℕ) → last < m → (count_by (λ k. k == n) numbers ≤ 1) × (n ≤ m → count_by (λ k. k == n) numbers ≡ 0)
    → (count_by (λ k. k == n) (m ∷ numbers) ≤ 1) × (n ≤ last → count_by (λ k. k == n) (m ∷ numbers) ≡ 0)
once-more last m numbers n above rest = by (m == n) refl
  where
    count : (b : Bool) → (m == n) ≡ b → count_by (λ k. k == n) (m ∷ numbers) ≡ cond b 1 0 + count_by (λ k. k == n) numbers
    count b e = sum_by-cons (λ (k : ℕ). cond (k == n) 1 0) m numbers ∙ ap (λ (c : Bool). cond c 1 0 + count_by (λ k. k == n) numbers) e

    by : (b : Bool) → (m == n) ≡ b → (count_by (λ k. k == n) (m ∷ numbers) ≤ 1) × (n ≤ last → count_by (λ k. k == n) (m ∷ numbers) ≡ 0)
    by true e =
        let same = eqb-true m n e in
        let none : count_by (λ k. k == n) numbers ≡ 0 = rest.1 (omega (arith, same)) in
        let all = count true e in
        (omega (arith, all, none), λ low. absurd (omega (arith, same, above, low)))
    by false e =
        let few : count_by (λ k. k == n) numbers ≤ 1 = rest.0 in
        let all = count false e in
        (omega (arith, all, few), λ low. let none : count_by (λ k. k == n) numbers ≡ 0 = rest.1 (omega (arith, low, above)) in omega (arith, all, none))

-- a number comes once at the most among those that rise, and not at all where it isn't above what is before them
once : (last : ℕ) (numbers : List ℕ) (n : ℕ) → IsStrictlyIncreasing (last ∷ numbers) → (count_by (λ m. m == n) numbers ≤ 1) × (n ≤ last → count_by (λ m. m == n) numbers ≡ 0)
once last [] n rise = (omega arith, λ low. refl)
once last (m ∷ numbers) n rise = once-more last m numbers n (All-head (λ k. last < k) m numbers (rising-head last (m ∷ numbers) rise)) (once m numbers n (rising-tail last (m ∷ numbers) rise))

-- a number that comes again is accepted once
pub accepted_once : NumbersAreAcceptedOnce
accepted_once arena frame state arrivals slot n =
    once (last_of (client_at state.clients slot)) (numbers_of slot (received arena frame state arrivals).lists.moves) n (numbers_rise arena frame state arrivals slot).rise

-- ---- movers are live

-- a live slot stays live
stays-live : (arena : MapView) (frame : ℕ) (r : Receiving) (place : ℕ) (a : Arrival) (k : ℕ) → IsSome (client_at r.state.clients k) → IsSome (client_at (after_arrival arena frame r place a).state.clients k)
stays-live arena frame r place a k live = by (step arena frame r place a k)
  where
    by : Step (client_at r.state.clients k) (client_at (after_arrival arena frame r place a).state.clients k) (numbers_of k r.lists.moves) (numbers_of k (after_arrival arena frame r place a).lists.moves)
        → IsSome (client_at (after_arrival arena frame r place a).state.clients k)
    by (inl same) = same.0.live live
    by (inr one) = one.1.live

-- the slot of the move is live
abbrev IsMoverOf : Receiving → Command → Type 0
IsMoverOf r c = IsSome (client_at r.state.clients c.slot)

-- and so is that of each move
abbrev AreLive : Receiving → Type 0
AreLive r = All (IsMoverOf r) r.lists.moves

live-step : (arena : MapView) (frame : ℕ) (r : Receiving) (place : ℕ) (a : Arrival) → AreLive r → AreLive (after_arrival arena frame r place a)
live-step arena frame r place a live = by (one_answer arena frame r place a)
  where
    next : Receiving
    next = after_arrival arena frame r place a

    same : All (IsMoverOf next) r.lists.moves
    same = All-weaker (IsMoverOf r) (IsMoverOf next) (λ c h. stays-live arena frame r place a c.slot h) r.lists.moves live

    kept : (l : Lists) → next.lists ≡ l → l.moves ≡ r.lists.moves → AreLive next
    kept l e moves = All-same (IsMoverOf next) next.lists.moves r.lists.moves (ap (λ (m : Lists). m.moves) e ∙ moves) same

    by : (IsRefused r next place ⊎ IsJoined arena r next a) ⊎ (IsLeave r next a ⊎ IsMove frame r next a) → AreLive next
    by (inl (inl f)) = kept _ f.lists refl
    by (inl (inr j)) = kept _ j.lists refl
    by (inr (inl l)) = kept _ l.lists refl
    by (inr (inr m)) =
        let here : IsSome (client_at next.state.clients m.live.slot) = stays-live arena frame r place a m.live.slot (ap is_some m.accepted.in_slot) in
        All-same (IsMoverOf next) next.lists.moves (r.lists.moves ++ m.commands) (ap (λ (l : Lists). l.moves) m.lists)
        (All-append (IsMoverOf next) r.lists.moves m.commands same (movers-are m.new m.commands m.of_packet here))
      where
        movers-are : (steps : List MovePacket) (commands : List Command) → AreCommandsOf frame m.live.slot steps commands → IsSome (client_at next.state.clients m.live.slot) → All (IsMoverOf next) commands
        movers-are [] [] are here = All-nil (IsMoverOf next)
        movers-are [] (c ∷ commands) are here = absurd are
        movers-are (p ∷ steps) [] are here = absurd are
        movers-are (p ∷ steps) (c ∷ commands) are here =
            All-cons (IsMoverOf next) c commands (subst (λ (j : ℕ). IsSome (client_at next.state.clients j)) (sym are.0.in_slot) here) (movers-are steps commands are.1 here)

live-through : (arena : MapView) (frame : ℕ) (r : Receiving) (place : ℕ) (arrivals : List Arrival) → AreLive r → AreLive (after_arrivals arena frame r place arrivals)
live-through arena frame r place [] live = live
live-through arena frame r place (a ∷ more) live = live-through arena frame (after_arrival arena frame r place a) (place + 1) more (live-step arena frame r place a live)

-- the slot of each accepted move is live after the packets
pub movers_live : (arena : MapView) (frame : ℕ) (state : State) (arrivals : List Arrival)
    → let next = received arena frame state arrivals in All (λ c. IsSome (client_at next.state.clients c.slot)) next.lists.moves
unfolding received
movers_live arena frame state arrivals = live-through arena frame _ 0 arrivals (All-nil (λ c. IsSome (client_at state.clients c.slot)))

-- ---- moves are few

few-at : (clients : List (Option Client)) (slot : ℕ) → AreClients clients → move_count (client_at clients slot) ≤ 8
few-at clients slot are = by (client_at clients slot) refl
  where
    by : (place : Option Client) → client_at clients slot ≡ place → move_count place ≤ 8
    by None e = omega arith
    by (Some c) e = are.few_moves slot c e

-- a player has at most 8 moves in a frame
pub few_moves : (arena : MapView) (frame : ℕ) (state : State) (arrivals : List Arrival) (slot : ℕ) → AreClients (received arena frame state arrivals).state.clients
    → length (numbers_of slot (received arena frame state arrivals).lists.moves) ≤ 8
few_moves arena frame state arrivals slot are =
    let count = (numbers_rise arena frame state arrivals slot).count in
    let few = few-at (received arena frame state arrivals).state.clients slot are in
    omega (arith, count, few)
