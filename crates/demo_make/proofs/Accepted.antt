-- Every packet of a generated recording is accepted.
use Rattle.std.proofs.Common.{◌≡◌, ℕ, zero, suc, ◌+◌, ◌-◌, ◌*◌, ◌^◌, ◌≤◌, ◌<◌, true, false, List, [], ◌∷◌, ◌++◌, length, map, Option, Some, None, Ok, refl, sym, ap, ◌∙◌, subst, inl, inr, arith, append-nil, append_assoc, get_or-set_same, length-set, length-append, lit<}
use Rattle.std.specs.Prelude.{nat_lt}
use Rattle.std.specs.List.{range_with_len, slice_set}
use Rattle.std.proofs.lemmas.Bool.{cases_lt}
use Rattle.std.proofs.lemmas.Bool.Decides.{nat_tests}
use Rattle.std.proofs.lemmas.List.{length-map}
use Rattle.std.proofs.lemmas.List.FromFn.{length-map-range_with_len}
use Rattle.std.proofs.lemmas.Option.{same_Some}
use Rattle.entity_recs.specs.declared.limits.TheConstants.{IDS}
use Rattle.entity_recs.specs.declared.rec.Rec.{Rec}
use Rattle.entity_slots.specs.Ports.{AreSlots, port_at}
use Rattle.entity_slots.proofs.Found.{found-only}
use Rattle.arena_map.specs.Maps.{MapView}
use Rattle.packet_read.specs.declared.move_packet.MovePacket.{MovePacket}
use Rattle.packet_read.specs.declared.arrival.Arrival.{Arrival}
use Rattle.client_ports.specs.declared.client.Client.{Client}
use Rattle.client_ports.specs.declared.client.LiveSlot.{LiveSlot}
use Rattle.client_ports.specs.Clients.{client, client_at, port_of, ports_of, live_slot, with_client}
use Rattle.client_ports.specs.States.{State, state_of, with_newcomer, with_update}
use Rattle.client_ports.specs.Lists.{no_lists, with_join, with_moves}
use Rattle.client_ports.specs.NewMoves.{new_among}
use Rattle.client_ports.specs.FirstRefusals.{move_answer}
use Rattle.client_ports.specs.FirstRefusals as answers
use Rattle.client_ports.specs.Receiving.{Receiving, receiving_of, after_join, after_move, after_packet, after_arrival, after_arrivals, command_in, received}
use Rattle.client_ports.specs.Finishing.{finished_client, finished_up_to, finished}
use Rattle.client_ports.proofs.Slots.{port_at-client, read-set}
use Rattle.client_ports.proofs.Leavers.{leavers_out}
use Rattle.demo_make.specs.Words.{word_at}
use Rattle.demo_make.specs.GeneratedMap.{generated_map, spawn_at}
use Rattle.demo_make.specs.GeneratedFrames.{move_of, join_from, move_from, ports, move_in, moves_in, arrivals_in}
use Rattle.demo_make.specs.Accepting.{ArePlaying, AreClearOfSpawns, IsPlayed, AllIsAccepted}
use Rattle.demo_make.specs.Repeating.{joined_as}
use Rattle.demo_make.proofs.Joining.{AreJoined, join-next, joined-next}
use Rattle.demo_make.proofs.FramesKept.{move-read, later-is}

pub after_arrivals-append : (m : MapView) (frame : ℕ) (r : Receiving) (place : ℕ) (first more : List Arrival)
    → after_arrivals m frame r place (first ++ more)
    ≡ after_arrivals m frame (after_arrivals m frame r place first) (place + length first) more
after_arrivals-append m frame r place [] more = ap (λ p. after_arrivals m frame r p more) (omega arith)
after_arrivals-append m frame r place (a ∷ first) more =
    let next = after_arrival m frame r place a in
    after_arrivals-append m frame next (place + 1) first more
    ∙ ap (λ p. after_arrivals m frame (after_arrivals m frame next (place + 1) first) p more) (omega arith)

-- ---- the joins

-- so many more joins were accepted, from this slot on, and nothing else came
pub record HasJoined (k joins : ℕ) (r next : Receiving) : Type 0 where
  pub refused : next.lists.refused ≡ r.lists.refused
  pub moves : next.lists.moves ≡ r.lists.moves
  pub joined : next.lists.joined ≡ r.lists.joined ++ map joined_as (range_with_len k joins)

abbrev joined_in : ℕ → Receiving → Receiving
joined_in k r = receiving_of (with_newcomer r.state (k + 1) k (spawn_at k)) (with_join r.lists (k + 1) k)

join-accepted : (k : ℕ) (r : Receiving) (place : ℕ) → AreJoined k r.state → k < 64
    → after_arrival generated_map 0 r place (join_from (k + 1)) ≡ joined_in k r
join-accepted k r place are few = ap (λ answer. after_join answer r place (k + 1)) (join-next k r.state are few)

pub record AfterJoins (k joins : ℕ) (r next : Receiving) : Type 0 where
  pub state : AreJoined (k + joins) next.state
  pub lists : HasJoined k joins r next

pub joins-run : (k n : ℕ) (r : Receiving) (place : ℕ) → AreJoined k r.state → k + n ≤ 64
    → AfterJoins k n r (after_arrivals generated_map 0 r place (map join_from (range_with_len (k + 1) n)))
joins-run k zero r place are few =
    let e : k + 0 ≡ k = omega arith in
    record {
      state = subst (λ j. AreJoined j r.state) (sym e) are;
      lists = record { refused = refl; moves = refl; joined = sym (append-nil r.lists.joined) };
    }
joins-run k (suc n) r place are few =
    let first = join-accepted k r place are (omega arith) in
    let rest = joins-run (k + 1) n (joined_in k r) (place + 1) (joined-next k r.state are (omega arith)) (omega arith) in
    let e : k + 1 + n ≡ k + suc n = omega arith in
    subst (λ next. AfterJoins k (suc n) r (after_arrivals generated_map 0 next (place + 1) (map join_from (range_with_len (k + 1 + 1) n)))) (sym first)
    (record {
      state = subst (λ j. AreJoined j (after_arrivals generated_map 0 (joined_in k r) (place + 1) (map join_from (range_with_len (k + 1 + 1) n))).state) e rest.state;
      lists = record {
        refused = rest.lists.refused;
        moves = rest.lists.moves;
        joined = rest.lists.joined ∙ append_assoc r.lists.joined (joined_as k ∷ []) (map joined_as (range_with_len (k + 1) n));
      };
    })

-- ---- the moves

-- so many players have moved in the frame, and the others have not
record AreMoved (players last seq moved : ℕ) (clients : List (Option Client)) : Type 0 where
  slots : length clients ≡ 64
  done : (slot : ℕ) → slot < moved → client_at clients slot ≡ Some (client (slot + 1) seq false 1)
  waiting : (slot : ℕ) → moved ≤ slot → slot < players → client_at clients slot ≡ Some (client (slot + 1) last false 0)
  free : (slot : ℕ) → players ≤ slot → client_at clients slot ≡ None

port-there : (players last seq moved : ℕ) (clients : List (Option Client)) → AreMoved players last seq moved clients
    → (slot : ℕ) → slot < players → port_at (ports_of clients) slot ≡ Some (slot + 1)
port-there players last seq moved clients are slot below =
    port_at-client clients slot
    ∙ elim (cases_lt slot moved) [
      | inl less ↦ ap port_of (are.done slot less)
      | inr more ↦ ap port_of (are.waiting slot more below)
    ]

are-slots : (players last seq moved : ℕ) (clients : List (Option Client)) → AreMoved players last seq moved clients
    → AreSlots (ports_of clients)
are-slots players last seq moved clients are = record {
  count = length-map clients port_of ∙ are.slots;
  apart = λ i j port ei ej. omega (arith, own i port ei, own j port ej);
}
  where
    none-some : (n : ℕ) → None ≡ Some n → ⊥
    none-some n e = cc

    own : (i port : ℕ) → port_at (ports_of clients) i ≡ Some port → port ≡ i + 1
    own i port e = elim (cases_lt i players) [
      | inl below ↦ same_Some port (i + 1) (sym e ∙ port-there players last seq moved clients are i below)
      | inr above ↦ absurd (none-some port (sym (port_at-client clients i ∙ ap port_of (are.free i above)) ∙ e))
    ]

abbrev mover : ℕ → ℕ → LiveSlot
mover slot seq = live_slot slot (client (slot + 1) seq false 1)

-- the player before its move of the frame
abbrev waiter : ℕ → ℕ → LiveSlot
waiter slot last = live_slot slot (client (slot + 1) last false 0)

-- a command with a higher number is new
new-one : (last : ℕ) (m : MovePacket) → last < m.seq → new_among last (m ∷ []) ≡ m ∷ []
new-one last m rises = let above : nat_lt last m.seq ≡ true = grind (arith, nat_tests) in rw above refl

move-answered : (players last seq moved word : ℕ) (clients : List (Option Client)) → AreMoved players last seq moved clients
    → moved < players → last < seq → move_answer clients (moved + 1) (move_of seq word ∷ []) ≡ Ok (waiter moved last)
move-answered players last seq moved word clients are below rises =
    let slots = are-slots players last seq moved clients are in
    let there = found-only (ports_of clients) slots moved (moved + 1) (port-there players last seq moved clients are moved below) in
    rw there (rw (are.waiting moved (omega arith) below) (rw (new-one last (move_of seq word) rises) refl))

moved-next : (players last seq moved : ℕ) (clients : List (Option Client)) → AreMoved players last seq moved clients
    → moved < players → players ≤ 64 → AreMoved players last seq (moved + 1) (with_client clients (mover moved seq))
moved-next players last seq moved clients are below few = record {
  slots = length-set clients moved (Some (client (moved + 1) seq false 1)) ∙ are.slots;
  done = λ slot less. elim (read-set clients moved slot (Some (client (moved + 1) seq false 1))) [
    | inl at ↦ at.2 ∙ ap (λ s. Some (client (s + 1) seq false 1)) (sym at.0)
    | inr kept ↦ elim (cases_lt slot moved) [ inl earlier ↦ kept ∙ are.done slot earlier | inr later ↦ own slot less later ]
  ];
  waiting = λ slot more within. elim (read-set clients moved slot (Some (client (moved + 1) seq false 1))) [
    | inl at ↦ absurd (omega (arith, at.0))
    | inr kept ↦ kept ∙ are.waiting slot (omega arith) within
  ];
  free = λ slot above. elim (read-set clients moved slot (Some (client (moved + 1) seq false 1))) [
    | inl at ↦ absurd (omega (arith, at.0))
    | inr kept ↦ kept ∙ are.free slot above
  ];
}
  where
    own : (slot : ℕ) → slot < moved + 1 → moved ≤ slot
        → client_at (slice_set clients moved (Some (client (moved + 1) seq false 1))) slot ≡ Some (client (slot + 1) seq false 1)
    own slot less more =
        let same : slot ≡ moved = omega arith in
        rw same (get_or-set_same clients moved (Some (client (moved + 1) seq false 1)) None (omega (arith, are.slots)))

-- so many more moves were accepted, and nothing else came
record HasMoved (moves : ℕ) (r next : Receiving) : Type 0 where
  refused : next.lists.refused ≡ r.lists.refused
  joined : next.lists.joined ≡ r.lists.joined
  moved : length next.lists.moves ≡ length r.lists.moves + moves

record AfterMoves (players last seq moved : ℕ) (more : ℕ) (r next : Receiving) : Type 0 where
  clients : AreMoved players last seq (moved + more) next.state.clients
  lists : HasMoved more r next

abbrev moved_in : ℕ → ℕ → ℕ → ℕ → Receiving → Receiving
moved_in frame seq moved word r =
    receiving_of (with_update r.state (mover moved seq)) (with_moves r.lists (command_in frame moved (move_of seq word) ∷ []))

move-accepted : (players last seq moved frame word : ℕ) (r : Receiving) (place : ℕ) → AreMoved players last seq moved r.state.clients
    → moved < players → last < seq → seq < 2 ^ 32
    → after_arrival generated_map frame r place (move_from seq (moved + 1) word) ≡ moved_in frame seq moved word r
move-accepted players last seq moved frame word r place are below rises small =
    ap (λ packet. after_packet generated_map frame packet r place (moved + 1)) (move-read seq (moved + 1) word small)
    ∙ ap (λ answer. after_move answer frame (move_of seq word ∷ []) r place)
    (move-answered players last seq moved word r.state.clients are below rises)
    ∙ ap (λ new. receiving_of (with_update r.state (answers.with_new_moves (waiter moved last) new)) (with_moves r.lists (map (command_in frame moved) new)))
    (new-one last (move_of seq word) rises)

moves-run : (seed players last frame moved n : ℕ) (r : Receiving) (place : ℕ) → AreMoved players last (frame + 1) moved r.state.clients
    → moved + n ≡ players → players ≤ 64 → last < frame + 1 → frame + 1 < 2 ^ 32
    → AfterMoves players last (frame + 1) moved n r
    (after_arrivals generated_map frame r place (map (move_in seed players frame) (range_with_len (moved + 1) n)))
moves-run seed players last frame moved zero r place are all few rises small =
    let e : moved + 0 ≡ moved = omega arith in
    record {
      clients = subst (λ j. AreMoved players last (frame + 1) j r.state.clients) (sym e) are;
      lists = record { refused = refl; joined = refl; moved = omega arith };
    }
moves-run seed players last frame moved (suc n) r place are all few rises small =
    let word = word_at seed (frame * players + (moved + 1 - 1)) in
    let next = moved_in frame (frame + 1) moved word r in
    let first = move-accepted players last (frame + 1) moved frame word r place are (omega arith) rises small in
    let rest = moves-run seed players last frame (moved + 1) n next (place + 1)
    (moved-next players last (frame + 1) moved r.state.clients are (omega arith) few) (omega arith) few rises small in
    let others = map (move_in seed players frame) (range_with_len (moved + 1 + 1) n) in
    let e : moved + 1 + n ≡ moved + suc n = omega arith in
    subst (λ s. AfterMoves players last (frame + 1) moved (suc n) r (after_arrivals generated_map frame s (place + 1) others)) (sym first)
    (record {
      clients = subst (λ j. AreMoved players last (frame + 1) j (after_arrivals generated_map frame next (place + 1) others).state.clients) e rest.clients;
      lists = record {
        refused = rest.lists.refused;
        joined = rest.lists.joined;
        moved = omega (arith, rest.lists.moved, length-append r.lists.moves (command_in frame moved (move_of (frame + 1) word) ∷ []));
      };
    })

-- ---- the end of the frame

length-finished : (state : State) (n : ℕ) → length (finished_up_to state n).clients ≡ length state.clients
unfolding finished_up_to
length-finished state zero = refl
length-finished state (suc n) =
    length-set (finished_up_to state n).clients n (finished_client (client_at (finished_up_to state n).clients n)) ∙ length-finished state n

pub finished-length : (state : State) → length (finished state).clients ≡ length state.clients
unfolding finished
finished-length state = length-finished state 64

plays-on : (players last seq : ℕ) (state : State) (records : List (Option Rec)) → AreMoved players last seq players state.clients
    → length records ≡ IDS → ArePlaying players seq (finished (state_of state.clients records)).clients
plays-on players last seq state records are many = record {
  slots = finished-length (state_of state.clients records) ∙ are.slots;
  joined = λ slot below. (leavers_out (state_of state.clients records) are.slots many slot).0 ∙ ap finished_client (are.done slot below);
  free = λ slot above. (leavers_out (state_of state.clients records) are.slots many slot).0 ∙ ap finished_client (are.free slot above);
}

-- ---- a frame

moves-played : (seed players last frame joins : ℕ) (r : Receiving) (place : ℕ) → AreMoved players last (frame + 1) 0 r.state.clients
    → players ≤ 64 → last < frame + 1 → frame + 1 < 2 ^ 32 → r.lists.refused ≡ [] → length r.lists.joined ≡ joins → r.lists.moves ≡ []
    → IsPlayed players joins (frame + 1) (after_arrivals generated_map frame r place (moves_in seed players frame))
moves-played seed players last frame joins r place are few rises small none joined no_moves =
    let all : 0 + players ≡ players = omega arith in
    let run = moves-run seed players last frame 0 players r place are all few rises small in
    let next = after_arrivals generated_map frame r place (moves_in seed players frame) in
    record {
      accepted = record {
        refused = run.lists.refused ∙ none;
        joined = ap length run.lists.joined ∙ joined;
        moved = omega (arith, run.lists.moved, ap length no_moves);
      };
      plays_on = λ records many. plays-on players last (frame + 1) next.state records
          (subst (λ j. AreMoved players last (frame + 1) j next.state.clients) all run.clients) many;
    }

first-frame : (seed players : ℕ) (state : State) → players ≤ 64 → ArePlaying 0 0 state.clients → length state.records ≡ IDS
    → AreClearOfSpawns state.records → IsPlayed players players 1 (received generated_map 0 state (arrivals_in seed players 0))
unfolding received
first-frame seed players state few nobody many clear =
    let start = receiving_of state no_lists in
    let none_yet : AreJoined 0 state = record {
      slots = nobody.slots;
      joined = λ slot below. absurd (omega arith);
      free = nobody.free;
      places = many;
      players = λ slot below. absurd (omega arith);
      others = λ id _ r e solid. clear id r e solid;
    } in
    let joins = map join_from (ports players) in
    let within : 0 + players ≤ 64 = omega arith in
    let run = joins-run 0 players start 0 none_yet within in
    let after = after_arrivals generated_map 0 start 0 joins in
    let all : 0 + players ≡ players = omega arith in
    let are : AreJoined players after.state = subst (λ k. AreJoined k after.state) all run.state in
    let waiting : AreMoved players 0 1 0 after.state.clients = record {
      slots = are.slots;
      done = λ slot below. absurd (omega arith);
      waiting = λ slot _ below. are.joined slot below;
      free = are.free;
    } in
    let joined : length after.lists.joined ≡ players =
    ap length run.lists.joined ∙ length-map-range_with_len joined_as 0 players in
    subst (IsPlayed players players 1) (sym (after_arrivals-append generated_map 0 start 0 joins (moves_in seed players 0)))
    (moves-played seed players 0 0 players after (0 + length joins) waiting few (omega arith) (lit< tt) run.lists.refused joined run.lists.moves)

later-frame : (seed players frame : ℕ) (state : State) → players ≤ 64 → 0 < frame → frame + 1 < 2 ^ 32
    → ArePlaying players frame state.clients → length state.records ≡ IDS
    → IsPlayed players 0 (frame + 1) (received generated_map frame state (arrivals_in seed players frame))
unfolding received
later-frame seed players frame state few later small playing many =
    let start = receiving_of state no_lists in
    let waiting : AreMoved players frame (frame + 1) 0 state.clients = record {
      slots = playing.slots;
      done = λ slot below. absurd (omega arith);
      waiting = λ slot _ below. playing.joined slot below;
      free = playing.free;
    } in
    rw (later-is seed players frame later) (moves-played seed players frame frame 0 start 0 waiting few (omega arith) small refl refl refl)

pub all_is_accepted : AllIsAccepted
all_is_accepted = record { first = first-frame; later = later-frame }
