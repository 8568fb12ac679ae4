-- The moves of players that have joined are accepted, on any map and whatever words they are drawn from.
use Rattle.std.proofs.Common.{◌≡◌, ℕ, zero, suc, ◌+◌, ◌^◌, ◌≤◌, ◌<◌, true, false, List, [], ◌∷◌, length, map, Option, Some, None, Ok, refl, sym, ap, ◌∙◌, subst, inl, inr, arith, get_or-set_same, length-set, length-append}
use Rattle.std.specs.Prelude.{nat_lt}
use Rattle.std.specs.List.{range_with_len, slice_set}
use Rattle.std.proofs.lemmas.Bool.{cases_lt}
use Rattle.std.proofs.lemmas.Bool.Decides.{nat_tests}
use Rattle.std.proofs.lemmas.List.{length-map}
use Rattle.std.proofs.lemmas.Option.{same_Some}
use Rattle.entity_recs.specs.declared.limits.TheConstants.{IDS}
use Rattle.entity_recs.specs.declared.rec.Rec.{Rec}
use Rattle.entity_slots.specs.Ports.{AreSlots, port_at}
use Rattle.entity_slots.proofs.Found.{found-only}
use Rattle.arena_map.specs.Maps.{MapView}
use Rattle.packet_read.specs.declared.move_packet.MovePacket.{MovePacket}
use Rattle.packet_read.specs.declared.arrival.Arrival.{Arrival}
use Rattle.client_ports.specs.declared.client.Client.{Client}
use Rattle.client_ports.specs.declared.client.LiveSlot.{LiveSlot}
use Rattle.client_ports.specs.Clients.{client, client_at, port_of, ports_of, live_slot, with_client}
use Rattle.client_ports.specs.States.{State, state_of, with_update}
use Rattle.client_ports.specs.Lists.{with_moves}
use Rattle.client_ports.specs.NewMoves.{new_among}
use Rattle.client_ports.specs.FirstRefusals.{move_answer}
use Rattle.client_ports.specs.FirstRefusals as answers
use Rattle.client_ports.specs.Receiving.{Receiving, receiving_of, after_move, after_packet, after_arrival, after_arrivals, command_in}
use Rattle.client_ports.specs.Finishing.{finished_client, finished}
use Rattle.client_ports.proofs.Slots.{port_at-client, read-set}
use Rattle.client_ports.proofs.Leavers.{leavers_out}
use Rattle.demo_make.specs.GeneratedFrames.{move_of, move_from, ports}
use Rattle.demo_make.specs.Accepting.{ArePlaying, IsPlayed}
use Rattle.demo_make.proofs.FramesKept.{move-read}
use Rattle.demo_make.proofs.Accepted.{finished-length}

-- ---- the moves

-- the move of a player in a frame, by the word that is given for its port
abbrev pub sent : (ℕ → ℕ) → ℕ → ℕ → Arrival
sent words frame port = move_from (frame + 1) port (words port)

-- so many players have moved in the frame, and the others have not
pub record AreMoved (players last seq moved : ℕ) (clients : List (Option Client)) : Type 0 where
  pub slots : length clients ≡ 64
  pub done : (slot : ℕ) → slot < moved → client_at clients slot ≡ Some (client (slot + 1) seq false 1)
  pub waiting : (slot : ℕ) → moved ≤ slot → slot < players → client_at clients slot ≡ Some (client (slot + 1) last false 0)
  pub free : (slot : ℕ) → players ≤ slot → client_at clients slot ≡ None

port-there : (players last seq moved : ℕ) (clients : List (Option Client)) → AreMoved players last seq moved clients
    → (slot : ℕ) → slot < players → port_at (ports_of clients) slot ≡ Some (slot + 1)
port-there players last seq moved clients are slot below =
    port_at-client clients slot
    ∙ elim (cases_lt slot moved) [
      | inl less ↦ ap port_of (are.done slot less)
      | inr more ↦ ap port_of (are.waiting slot more below)
    ]

are-slots : (players last seq moved : ℕ) (clients : List (Option Client)) → AreMoved players last seq moved clients
    → AreSlots (ports_of clients)
are-slots players last seq moved clients are = record {
  count = length-map clients port_of ∙ are.slots;
  apart = λ i j port ei ej. omega (arith, own i port ei, own j port ej);
}
  where
    none-some : (n : ℕ) → None ≡ Some n → ⊥
    none-some n e = cc

    own : (i port : ℕ) → port_at (ports_of clients) i ≡ Some port → port ≡ i + 1
    own i port e = elim (cases_lt i players) [
      | inl below ↦ same_Some port (i + 1) (sym e ∙ port-there players last seq moved clients are i below)
      | inr above ↦ absurd (none-some port (sym (port_at-client clients i ∙ ap port_of (are.free i above)) ∙ e))
    ]

abbrev mover : ℕ → ℕ → LiveSlot
mover slot seq = live_slot slot (client (slot + 1) seq false 1)

-- the player before its move of the frame
abbrev waiter : ℕ → ℕ → LiveSlot
waiter slot last = live_slot slot (client (slot + 1) last false 0)

-- a command with a higher number is new
new-one : (last : ℕ) (move : MovePacket) → last < move.seq → new_among last (move ∷ []) ≡ move ∷ []
new-one last move rises = let above : nat_lt last move.seq ≡ true = grind (arith, nat_tests) in rw above refl

move-answered : (players last seq moved word : ℕ) (clients : List (Option Client)) → AreMoved players last seq moved clients
    → moved < players → last < seq → move_answer clients (moved + 1) (move_of seq word ∷ []) ≡ Ok (waiter moved last)
move-answered players last seq moved word clients are below rises =
    let slots = are-slots players last seq moved clients are in
    let there = found-only (ports_of clients) slots moved (moved + 1) (port-there players last seq moved clients are moved below) in
    rw there (rw (are.waiting moved (omega arith) below) (rw (new-one last (move_of seq word) rises) refl))

moved-next : (players last seq moved : ℕ) (clients : List (Option Client)) → AreMoved players last seq moved clients
    → moved < players → players ≤ 64 → AreMoved players last seq (moved + 1) (with_client clients (mover moved seq))
moved-next players last seq moved clients are below few = record {
  slots = length-set clients moved (Some (client (moved + 1) seq false 1)) ∙ are.slots;
  done = λ slot less. elim (read-set clients moved slot (Some (client (moved + 1) seq false 1))) [
    | inl at ↦ at.2 ∙ ap (λ s. Some (client (s + 1) seq false 1)) (sym at.0)
    | inr kept ↦ elim (cases_lt slot moved) [ inl earlier ↦ kept ∙ are.done slot earlier | inr later ↦ own slot less later ]
  ];
  waiting = λ slot more within. elim (read-set clients moved slot (Some (client (moved + 1) seq false 1))) [
    | inl at ↦ absurd (omega (arith, at.0))
    | inr kept ↦ kept ∙ are.waiting slot (omega arith) within
  ];
  free = λ slot above. elim (read-set clients moved slot (Some (client (moved + 1) seq false 1))) [
    | inl at ↦ absurd (omega (arith, at.0))
    | inr kept ↦ kept ∙ are.free slot above
  ];
}
  where
    own : (slot : ℕ) → slot < moved + 1 → moved ≤ slot
        → client_at (slice_set clients moved (Some (client (moved + 1) seq false 1))) slot ≡ Some (client (slot + 1) seq false 1)
    own slot less more =
        let same : slot ≡ moved = omega arith in
        rw same (get_or-set_same clients moved (Some (client (moved + 1) seq false 1)) None (omega (arith, are.slots)))

-- so many more moves were accepted, and nothing else came
record HasMoved (moves : ℕ) (r next : Receiving) : Type 0 where
  refused : next.lists.refused ≡ r.lists.refused
  joined : next.lists.joined ≡ r.lists.joined
  moved : length next.lists.moves ≡ length r.lists.moves + moves

record AfterMoves (players last seq moved : ℕ) (more : ℕ) (r next : Receiving) : Type 0 where
  clients : AreMoved players last seq (moved + more) next.state.clients
  lists : HasMoved more r next

abbrev moved_in : ℕ → ℕ → ℕ → ℕ → Receiving → Receiving
moved_in frame seq moved word r =
    receiving_of (with_update r.state (mover moved seq)) (with_moves r.lists (command_in frame moved (move_of seq word) ∷ []))

move-accepted : (m : MapView) (players last seq moved frame word : ℕ) (r : Receiving) (place : ℕ) → AreMoved players last seq moved r.state.clients
    → moved < players → last < seq → seq < 2 ^ 32
    → after_arrival m frame r place (move_from seq (moved + 1) word) ≡ moved_in frame seq moved word r
move-accepted m players last seq moved frame word r place are below rises small =
    ap (λ packet. after_packet m frame packet r place (moved + 1)) (move-read seq (moved + 1) word small)
    ∙ ap (λ answer. after_move answer frame (move_of seq word ∷ []) r place)
    (move-answered players last seq moved word r.state.clients are below rises)
    ∙ ap (λ new. receiving_of (with_update r.state (answers.with_new_moves (waiter moved last) new)) (with_moves r.lists (map (command_in frame moved) new)))
    (new-one last (move_of seq word) rises)

moves-run : (m : MapView) (words : ℕ → ℕ) (players last frame moved n : ℕ) (r : Receiving) (place : ℕ) → AreMoved players last (frame + 1) moved r.state.clients
    → moved + n ≡ players → players ≤ 64 → last < frame + 1 → frame + 1 < 2 ^ 32
    → AfterMoves players last (frame + 1) moved n r
    (after_arrivals m frame r place (map (sent words frame) (range_with_len (moved + 1) n)))
moves-run m words players last frame moved zero r place are all few rises small =
    let e : moved + 0 ≡ moved = omega arith in
    record {
      clients = subst (λ j. AreMoved players last (frame + 1) j r.state.clients) (sym e) are;
      lists = record { refused = refl; joined = refl; moved = omega arith };
    }
moves-run m words players last frame moved (suc n) r place are all few rises small =
    let word = words (moved + 1) in
    let next = moved_in frame (frame + 1) moved word r in
    let first = move-accepted m players last (frame + 1) moved frame word r place are (omega arith) rises small in
    let rest = moves-run m words players last frame (moved + 1) n next (place + 1)
    (moved-next players last (frame + 1) moved r.state.clients are (omega arith) few) (omega arith) few rises small in
    let others = map (sent words frame) (range_with_len (moved + 1 + 1) n) in
    let e : moved + 1 + n ≡ moved + suc n = omega arith in
    subst (λ s. AfterMoves players last (frame + 1) moved (suc n) r (after_arrivals m frame s (place + 1) others)) (sym first)
    (record {
      clients = subst (λ j. AreMoved players last (frame + 1) j (after_arrivals m frame next (place + 1) others).state.clients) e rest.clients;
      lists = record {
        refused = rest.lists.refused;
        joined = rest.lists.joined;
        moved = omega (arith, rest.lists.moved, length-append r.lists.moves (command_in frame moved (move_of (frame + 1) word) ∷ []));
      };
    })

-- ---- the end of the frame

plays-on : (players last seq : ℕ) (state : State) (records : List (Option Rec)) → AreMoved players last seq players state.clients
    → length records ≡ IDS → ArePlaying players seq (finished (state_of state.clients records)).clients
plays-on players last seq state records are many = record {
  slots = finished-length (state_of state.clients records) ∙ are.slots;
  joined = λ slot below. (leavers_out (state_of state.clients records) are.slots many slot).0 ∙ ap finished_client (are.done slot below);
  free = λ slot above. (leavers_out (state_of state.clients records) are.slots many slot).0 ∙ ap finished_client (are.free slot above);
}

-- ---- a frame

pub moves-played : (m : MapView) (words : ℕ → ℕ) (players last frame joins : ℕ) (r : Receiving) (place : ℕ) → AreMoved players last (frame + 1) 0 r.state.clients
    → players ≤ 64 → last < frame + 1 → frame + 1 < 2 ^ 32 → r.lists.refused ≡ [] → length r.lists.joined ≡ joins → r.lists.moves ≡ []
    → IsPlayed players joins (frame + 1) (after_arrivals m frame r place (map (sent words frame) (ports players)))
moves-played m words players last frame joins r place are few rises small none joined no_moves =
    let all : 0 + players ≡ players = omega arith in
    let run = moves-run m words players last frame 0 players r place are all few rises small in
    let next = after_arrivals m frame r place (map (sent words frame) (ports players)) in
    record {
      accepted = record {
        refused = run.lists.refused ∙ none;
        joined = ap length run.lists.joined ∙ joined;
        moved = omega (arith, run.lists.moved, ap length no_moves);
      };
      plays_on = λ records many. plays-on players last (frame + 1) next.state records
          (subst (λ j. AreMoved players last (frame + 1) j next.state.clients) all run.clients) many;
    }
