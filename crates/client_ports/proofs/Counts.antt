-- The packets of a frame, counted by their answers.
use Rattle.std.proofs.Common.{◌≡◌, ◌⊎◌, ℕ, ◌+◌, ◌<◌, ◌≤◌, Bool, true, false, cond, List, [], ◌∷◌, ◌++◌, length, drop, Option, Some, None, slice_set, sym, refl, ap, subst, ◌∙◌, inl, inr, arith}
use Rattle.std.specs.Prelude.{nat_lt, flat_map, count_by}
use Rattle.std.proofs.lemmas.Bool.Decides.{nat_tests}
use Rattle.std.proofs.Math.Seq.{drop-append_seam}
use Rattle.std.proofs.lemmas.List.{append-nil, append_assoc, length_push}
use Rattle.std.proofs.lemmas.List.Sums.{sum_by-cons, sum_by-set}
use Rattle.entity_recs.specs.Commands.{Command}
use Rattle.packet_read.specs.declared.move_packet.MovePacket.{MovePacket}
use Rattle.packet_read.specs.Reading.{reading}
use Rattle.arena_map.specs.Maps.{MapView}
use Rattle.packet_read.specs.declared.arrival.Arrival.{Arrival}
use Rattle.client_ports.specs.declared.client.Client.{Client}
use Rattle.client_ports.specs.declared.client.LiveSlot.{LiveSlot}
use Rattle.client_ports.specs.Clients.{client_at, live_slot, new_client, with_client}
use Rattle.client_ports.specs.States.{State}
use Rattle.client_ports.specs.Lists.{Lists, no_lists}
use Rattle.client_ports.specs.Finishing.{is_leaver}
use Rattle.client_ports.specs.Receiving.{Receiving, receiving_of, after_arrival, after_arrivals, received}
use Rattle.packet_read.specs.Commands.{commands_of}
use Rattle.client_ports.specs.Laws.{AreAccepted, IsAcceptedLeave, IsRefused, IsJoined, IsLeave, AreCommandsOf, IsMove}
use Rattle.client_ports.specs.Frames.{leaver_count, moves_from, is_some_move, EachPacketIsAnswered, command_count, HaveFewMoves, MovesComeOfCommands}
use Rattle.client_ports.proofs.NewMoves.{new-few}
use Rattle.client_ports.proofs.Facts.{one_answer}
use Rattle.client_ports.proofs.Changes.{live-inside, join-newcomer}

-- ---- leavers

-- 1 for a client that leaves, and 0 for another or none
leaver : Option Client → ℕ
leaver place = cond (is_leaver place) 1 0

leaver-of : (place : Option Client) (b : Bool) → is_leaver place ≡ b → leaver place ≡ cond b 1 0
unfolding leaver
leaver-of place b e = ap (λ (c : Bool). cond c 1 0) e

-- another client is put in a slot
leavers-set : (clients : List (Option Client)) (slot : ℕ) (place : Option Client) → slot < length clients
    → leaver_count (slice_set clients slot place) + leaver (client_at clients slot) ≡ leaver_count clients + leaver place
unfolding leaver
leavers-set clients slot place below = sum_by-set (λ c. cond (is_leaver c) 1 0) clients slot place None below

leavers-join : (clients : List (Option Client)) (port slot : ℕ) → slot < length clients → client_at clients slot ≡ None → leaver_count (with_client clients (live_slot slot (new_client port))) ≡ leaver_count clients
leavers-join clients port slot inside free =
    let was = leaver-of (client_at clients slot) false (ap is_leaver free) in
    let now = leaver-of (Some (new_client port)) false refl in
    omega (arith, leavers-set clients slot (Some (new_client port)) inside, was, now)

leavers-move : (clients : List (Option Client)) (steps new : List MovePacket) (live : LiveSlot) → AreAccepted clients steps new live → leaver_count (with_client clients live) ≡ leaver_count clients
leavers-move clients steps new live by =
    let was = leaver-of (client_at clients live.slot) false (ap is_leaver by.in_slot ∙ by.stays) in
    let now = leaver-of (Some live.client) false (ap (λ (c : Client). c.leaves) by.is) in
    omega (arith, leavers-set clients live.slot (Some live.client) (live-inside clients live.slot by.was by.in_slot), was, now)

leavers-leave : (clients : List (Option Client)) (live : LiveSlot) → IsAcceptedLeave clients live → leaver_count (with_client clients live) ≡ leaver_count clients + 1
leavers-leave clients live by =
    let was = leaver-of (client_at clients live.slot) false (ap is_leaver by.in_slot ∙ by.stays) in
    let now = leaver-of (Some live.client) true (ap (λ (c : Client). c.leaves) by.is) in
    omega (arith, leavers-set clients live.slot (Some live.client) (live-inside clients live.slot by.was by.in_slot), was, now)

-- ---- the moves of each packet

-- the moves that a packet gives: they are put last, and are no more than its commands
pub record Gives (r next : Receiving) (a : Arrival) : Type 0 where
  pub moves : List Command
  pub is : next.lists.moves ≡ r.lists.moves ++ moves
  pub few : length moves ≤ command_count (reading a.bytes)

-- commands of moves are as many
pub commands-count : (frame slot : ℕ) (steps : List MovePacket) (commands : List Command) → AreCommandsOf frame slot steps commands → length commands ≡ length steps
commands-count frame slot [] [] are = refl
commands-count frame slot [] (c ∷ commands) are = absurd are
commands-count frame slot (m ∷ steps) [] are = absurd are
commands-count frame slot (m ∷ steps) (c ∷ commands) are = let rest = commands-count frame slot steps commands are.1 in omega (arith, rest)

pub gives : (map : MapView) (frame : ℕ) (r : Receiving) (place : ℕ) (a : Arrival) → Gives r (after_arrival map frame r place a) a
gives map frame r place a = by (one_answer map frame r place a)
  where
    next : Receiving
    next = after_arrival map frame r place a

    none : (l : Lists) → next.lists ≡ l → l.moves ≡ r.lists.moves → Gives r next a
    none l e same = record { moves = []; is = ap (λ (m : Lists). m.moves) e ∙ same ∙ sym (append-nil r.lists.moves); few = omega arith }

    by : (IsRefused r next place ⊎ IsJoined map r next a) ⊎ (IsLeave r next a ⊎ IsMove frame r next a) → Gives r next a
    by (inl (inl f)) = none _ f.lists refl
    by (inl (inr j)) = none _ j.lists refl
    by (inr (inl l)) = none _ l.lists refl
    by (inr (inr m)) =
        let count = commands-count frame m.live.slot m.new m.commands m.of_packet in
        let new = ap (λ (l : List MovePacket). length l) m.accepted.are_new in
        let few = new-few m.accepted.was.last (commands_of m.packet) in
        let read = ap command_count m.read in
        record { moves = m.commands; is = ap (λ (l : Lists). l.moves) m.lists; few = omega (arith, count, new, few, read) }

-- what comes after the moves before it is what it gives
given-is : (map : MapView) (frame : ℕ) (r : Receiving) (place : ℕ) (a : Arrival)
    → drop (length r.lists.moves) (after_arrival map frame r place a).lists.moves ≡ (gives map frame r place a).moves
given-is map frame r place a =
    let g = gives map frame r place a in
    ap (drop (length r.lists.moves)) g.is ∙ drop-append_seam r.lists.moves g.moves

moves-joined : (map : MapView) (frame : ℕ) (r : Receiving) (place : ℕ) (arrivals : List Arrival)
    → r.lists.moves ++ flat_map (λ moves. moves) (moves_from map frame r place arrivals) ≡ (after_arrivals map frame r place arrivals).lists.moves
moves-joined map frame r place [] = append-nil r.lists.moves
moves-joined map frame r place (a ∷ more) =
    let next = after_arrival map frame r place a in
    let g = gives map frame r place a in
    let rest = flat_map (λ moves. moves) (moves_from map frame next (place + 1) more) in
    ap (λ (l : List Command). r.lists.moves ++ (l ++ rest)) (given-is map frame r place a)
    ∙ sym (append_assoc r.lists.moves g.moves rest)
    ∙ ap (λ (l : List Command). l ++ rest) (sym g.is)
    ∙ moves-joined map frame next (place + 1) more

moves-few : (map : MapView) (frame : ℕ) (r : Receiving) (place : ℕ) (arrivals : List Arrival) → HaveFewMoves (moves_from map frame r place arrivals) arrivals
moves-few map frame r place [] = tt
moves-few map frame r place (a ∷ more) =
    let g = gives map frame r place a in (
      subst (λ (l : List Command). length l ≤ command_count (reading a.bytes)) (sym (given-is map frame r place a)) g.few,
      moves-few map frame (after_arrival map frame r place a) (place + 1) more,
    )

pub moves_of_commands : MovesComeOfCommands
unfolding received
moves_of_commands = record {
  all = λ map frame state arrivals. moves-joined map frame (receiving_of state no_lists) 0 arrivals;
  each = λ map frame state arrivals. moves-few map frame (receiving_of state no_lists) 0 arrivals;
}

-- ---- all answers

-- how many refusals and joins there are
lists_count : Lists → ℕ
lists_count l = length l.refused + length l.joined

-- and new leavers
answer_count : Receiving → ℕ
answer_count r = lists_count r.lists + leaver_count r.state.clients

count-of : (r : Receiving) (s : State) (l : Lists) → r.state ≡ s → r.lists ≡ l → answer_count r ≡ lists_count l + leaver_count s.clients
unfolding answer_count
count-of r s l state lists = ap (λ (m : Lists). lists_count m + leaver_count r.state.clients) lists ∙ ap (λ (t : State). lists_count l + leaver_count t.clients) state

-- 1 where a packet gives a move, and else 0
given_count : Receiving → Receiving → ℕ
given_count r next = cond (is_some_move (drop (length r.lists.moves) next.lists.moves)) 1 0

given-count : (r next : Receiving) (moves : List Command) → next.lists.moves ≡ r.lists.moves ++ moves → given_count r next ≡ cond (is_some_move moves) 1 0
unfolding given_count
given-count r next moves e = ap (λ (l : List Command). cond (is_some_move l) 1 0) (ap (drop (length r.lists.moves)) e ∙ drop-append_seam r.lists.moves moves)

pub true-lt : (n : ℕ) → 1 ≤ n → nat_lt 0 n ≡ true
true-lt n h = grind (arith, nat_tests)

count-step : (map : MapView) (frame : ℕ) (r : Receiving) (place : ℕ) (a : Arrival)
    → let next = after_arrival map frame r place a in answer_count next + given_count r next ≡ answer_count r + 1
unfolding answer_count lists_count
count-step map frame r place a = by (one_answer map frame r place a)
  where
    next : Receiving
    next = after_arrival map frame r place a

    none : (l : Lists) → next.lists ≡ l → l.moves ≡ r.lists.moves → given_count r next ≡ 0
    none l e same = given-count r next [] (ap (λ (m : Lists). m.moves) e ∙ same ∙ sym (append-nil r.lists.moves))

    some : (moves : List Command) → 1 ≤ length moves → ◌≡◌ {A = ℕ} (cond (is_some_move moves) 1 0) 1
    some moves h = ap (λ (b : Bool). cond b 1 0) (true-lt (length moves) h)

    by : (IsRefused r next place ⊎ IsJoined map r next a) ⊎ (IsLeave r next a ⊎ IsMove frame r next a) → answer_count next + given_count r next ≡ answer_count r + 1
    by (inl (inl f)) = omega (arith, none _ f.lists refl, count-of next r.state _ f.state f.lists, length_push r.lists.refused (record { place = place; why = f.why }))
    by (inl (inr j)) =
        let new = join-newcomer map r.state a.port j.to j.answer in
        omega (arith, none _ j.lists refl, count-of next _ _ j.state j.lists, length_push r.lists.joined (record { port = a.port; slot = j.to.slot }), leavers-join r.state.clients a.port j.to.slot new.inside new.free)
    by (inr (inl l)) = omega (arith, none _ l.lists refl, count-of next _ _ l.state l.lists, leavers-leave r.state.clients l.live l.accepted)
    by (inr (inr m)) =
        let count = commands-count frame m.live.slot m.new m.commands m.of_packet in
        let few = m.accepted.some in
        let given = given-count r next m.commands (ap (λ (l : Lists). l.moves) m.lists) ∙ some m.commands (omega (arith, count, few)) in
        omega (arith, given, count-of next _ _ m.state m.lists, leavers-move r.state.clients (commands_of m.packet) m.new m.live m.accepted)

-- how many of the packets give a move
given_in : MapView → ℕ → Receiving → ℕ → List Arrival → ℕ
given_in map frame r place arrivals = count_by is_some_move (moves_from map frame r place arrivals)

given-more : (map : MapView) (frame : ℕ) (r : Receiving) (place : ℕ) (a : Arrival) (more : List Arrival)
    → let next = after_arrival map frame r place a in given_in map frame r place (a ∷ more) ≡ given_count r next + given_in map frame next (place + 1) more
unfolding given_in given_count
given-more map frame r place a more =
    let next = after_arrival map frame r place a in
    sum_by-cons (λ (l : List Command). cond (is_some_move l) 1 0) (drop (length r.lists.moves) next.lists.moves) (moves_from map frame next (place + 1) more)

none-given : (map : MapView) (frame : ℕ) (r : Receiving) (place : ℕ) → given_in map frame r place [] ≡ 0
unfolding given_in
none-given map frame r place = refl

count-through : (map : MapView) (frame : ℕ) (r : Receiving) (place : ℕ) (arrivals : List Arrival)
    → answer_count (after_arrivals map frame r place arrivals) + given_in map frame r place arrivals ≡ length arrivals + answer_count r
count-through map frame r place [] = omega (arith, none-given map frame r place)
count-through map frame r place (a ∷ more) =
    let next = after_arrival map frame r place a in
    omega (arith, count-through map frame next (place + 1) more, count-step map frame r place a, given-more map frame r place a more)

-- each packet of a frame has one answer
pub packets_answered : EachPacketIsAnswered
unfolding received answer_count lists_count given_in
packets_answered map frame state arrivals = let all = count-through map frame (receiving_of state no_lists) 0 arrivals in omega (arith, all)
