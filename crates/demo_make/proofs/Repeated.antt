-- Each command of a recording in which commands are resent is accepted once.
use Rattle.std.proofs.Common.{◌≡◌, ℕ, zero, suc, ◌+◌, ◌-◌, ◌^◌, ◌≤◌, ◌<◌, Bool, true, false, eqb, cond, List, [], ◌∷◌, ◌++◌, length, map, filter, flat_map, Option, Some, None, Ok, refl, sym, ap, ◌∙◌, subst, inl, inr, arith, append-nil, append_assoc, get_or-set_same, length-set, lit<}
use Rattle.std.specs.Prelude.{nat_lt}
use Rattle.std.specs.List.{range_with_len, slice_set}
use Rattle.std.proofs.lemmas.Bool.{cases_lt, cases_eq, ne_eqb, eq-eqb}
use Rattle.std.proofs.lemmas.Bool.Decides.{nat_tests}
use Rattle.std.proofs.lemmas.List.{length-map}
use Rattle.std.proofs.lemmas.List.Elements.{filter-append}
use Rattle.std.proofs.lemmas.Option.{same_Some}
use Rattle.entity_recs.specs.declared.limits.TheConstants.{IDS}
use Rattle.entity_recs.specs.declared.rec.Rec.{Rec}
use Rattle.entity_recs.specs.Commands.{Command}
use Rattle.entity_slots.specs.Ports.{AreSlots, port_at}
use Rattle.entity_slots.proofs.Found.{found-only}
use Rattle.packet_read.specs.declared.move_packet.MovePacket.{MovePacket}
use Rattle.packet_read.specs.declared.packet.Packet.TheVariants.{Moves}
use Rattle.packet_read.specs.Commands.{commands_of}
use Rattle.client_ports.specs.declared.client.Client.{Client}
use Rattle.client_ports.specs.declared.client.LiveSlot.{LiveSlot}
use Rattle.client_ports.specs.Clients.{client, client_at, port_of, ports_of, live_slot, with_client}
use Rattle.client_ports.specs.States.{State, state_of, with_update}
use Rattle.client_ports.specs.Lists.{no_lists, with_moves}
use Rattle.client_ports.specs.NewMoves.{new_among}
use Rattle.client_ports.specs.FirstRefusals.{move_answer, new_answer, with_new_moves}
use Rattle.client_ports.specs.Receiving.{Receiving, receiving_of, after_move, after_packet, after_arrival, after_arrivals, command_in, received}
use Rattle.client_ports.specs.Finishing.{finished_client, finished}
use Rattle.client_ports.proofs.Slots.{port_at-client, read-set}
use Rattle.client_ports.proofs.Leavers.{leavers_out}
use Rattle.demo_make.specs.GeneratedMap.{generated_map}
use Rattle.demo_make.specs.GeneratedFrames.{join_from, ports}
use Rattle.demo_make.specs.ResentFrames.{repeat_from, arrives, repeats_in, resent_in}
use Rattle.demo_make.specs.Accepting.{ArePlaying, ArePlayingUpTo, AreClearOfSpawns}
use Rattle.demo_make.specs.Repeating.{last_before, new_commands, moves_of, joined_as, joined_in, OnlyNewAreAccepted, CommandsArriveOnce}
use Rattle.demo_make.proofs.FramesKept.{no-joins}
use Rattle.demo_make.proofs.Joining.{AreJoined}
use Rattle.demo_make.proofs.Accepted.{after_arrivals-append, joins-run, finished-length}
use Rattle.demo_make.proofs.Repeats.{repeat_of, repeat-read}
use Rattle.demo_make.proofs.LastNumbers.{last-low, last-high, last-is}
use Rattle.demo_make.proofs.NewCommands.{packet-new, none-new, new-length, new-last, each-once}

-- ---- who was heard

-- the player of a slot before its packet of the frame, and after these new commands
abbrev waiter : ℕ → ℕ → LiveSlot
waiter slot last = live_slot slot (client (slot + 1) last false 0)

abbrev mover : ℕ → ℕ → List MovePacket → LiveSlot
mover slot last new = with_new_moves (waiter slot last) new

-- the new commands of so many players were accepted in the frame, and the others have had none
record AreHeard (players : ℕ) (last : ℕ → ℕ) (new : ℕ → List MovePacket) (heard : ℕ) (clients : List (Option Client)) : Type 0 where
  slots : length clients ≡ 64
  done : (slot : ℕ) → slot < heard → client_at clients slot ≡ Some (mover slot (last slot) (new slot)).client
  waiting : (slot : ℕ) → heard ≤ slot → slot < players → client_at clients slot ≡ Some (waiter slot (last slot)).client
  free : (slot : ℕ) → players ≤ slot → client_at clients slot ≡ None

module _ (players : ℕ) (last : ℕ → ℕ) (new : ℕ → List MovePacket) where
  port-there : (heard : ℕ) (clients : List (Option Client)) → AreHeard players last new heard clients
      → (slot : ℕ) → slot < players → port_at (ports_of clients) slot ≡ Some (slot + 1)
  port-there heard clients are slot below =
      port_at-client clients slot
      ∙ elim (cases_lt slot heard) [
        | inl less ↦ ap port_of (are.done slot less)
        | inr more ↦ ap port_of (are.waiting slot more below)
      ]

  are-slots : (heard : ℕ) (clients : List (Option Client)) → AreHeard players last new heard clients → AreSlots (ports_of clients)
  are-slots heard clients are = record {
    count = length-map clients port_of ∙ are.slots;
    apart = λ i j port ei ej. omega (arith, own i port ei, own j port ej);
  }
    where
      none-some : (n : ℕ) → None ≡ Some n → ⊥
      none-some n e = cc

      own : (i port : ℕ) → port_at (ports_of clients) i ≡ Some port → port ≡ i + 1
      own i port e = elim (cases_lt i players) [
        | inl below ↦ same_Some port (i + 1) (sym e ∙ port-there heard clients are i below)
        | inr above ↦ absurd (none-some port (sym (port_at-client clients i ∙ ap port_of (are.free i above)) ∙ e))
      ]

  -- after the packet of the next player
  heard-next : (heard : ℕ) (clients : List (Option Client)) → AreHeard players last new heard clients → heard < players → players ≤ 64
      → AreHeard players last new (heard + 1) (with_client clients (mover heard (last heard) (new heard)))
  heard-next heard clients are below few = record {
    slots = length-set clients heard there ∙ are.slots;
    done = λ slot less. elim (read-set clients heard slot there) [
      | inl at ↦ at.2 ∙ ap (λ s. Some (mover s (last s) (new s)).client) (sym at.0)
      | inr kept ↦ elim (cases_lt slot heard) [ inl earlier ↦ kept ∙ are.done slot earlier | inr later ↦ own slot less later ]
    ];
    waiting = λ slot more within. elim (read-set clients heard slot there) [
      | inl at ↦ absurd (omega (arith, at.0))
      | inr kept ↦ kept ∙ are.waiting slot (omega arith) within
    ];
    free = λ slot above. elim (read-set clients heard slot there) [
      | inl at ↦ absurd (omega (arith, at.0))
      | inr kept ↦ kept ∙ are.free slot above
    ];
  }
    where
      there : Option Client
      there = Some (mover heard (last heard) (new heard)).client

      own : (slot : ℕ) → slot < heard + 1 → heard ≤ slot
          → client_at (slice_set clients heard there) slot ≡ Some (mover slot (last slot) (new slot)).client
      own slot less more =
          let same : slot ≡ heard = omega arith in
          rw same (get_or-set_same clients heard there None (omega (arith, are.slots)))

  -- and without it, where nothing new came
  heard-none : (heard : ℕ) (clients : List (Option Client)) → AreHeard players last new heard clients → heard < players → new heard ≡ []
      → AreHeard players last new (heard + 1) clients
  heard-none heard clients are below none = record {
    slots = are.slots;
    done = λ slot less. elim (cases_lt slot heard) [ inl earlier ↦ are.done slot earlier | inr later ↦ own slot less later ];
    waiting = λ slot more within. are.waiting slot (omega arith) within;
    free = are.free;
  }
    where
      own : (slot : ℕ) → slot < heard + 1 → heard ≤ slot → client_at clients slot ≡ Some (mover slot (last slot) (new slot)).client
      own slot less more =
          let same : slot ≡ heard = omega arith in
          rw same (are.waiting heard (omega arith) below ∙ ap (λ ms. Some (mover heard (last heard) ms).client) (sym none))

-- a packet with one to three new commands is accepted
new-accepted : (slot last new : ℕ) → 1 ≤ new → new ≤ 3 → new_answer (waiter slot last) new ≡ Ok (waiter slot last)
new-accepted slot last new some few =
    let there : eqb new 0 ≡ false = grind (arith, nat_tests) in
    let room : nat_lt 8 (0 + new) ≡ false = grind (arith, nat_tests) in
    rw there (rw room refl)

-- ---- the packets of a frame

module _ (seed players frames frame : ℕ) where
  -- the last number of a slot before the frame, and its new commands
  abbrev last : ℕ → ℕ
  last slot = last_before frames (slot + 1) frame

  abbrev new : ℕ → List MovePacket
  new slot = new_commands seed players frames frame (slot + 1)

  abbrev Heard : ℕ → List (Option Client) → Type 0
  Heard heard clients = AreHeard players last new heard clients

  -- the commands of a slot
  abbrev given : ℕ → List Command
  given slot = map (command_in frame slot) (new slot)

  -- the new commands of so many more players were accepted, and nothing else came
  record HasHeard (heard more : ℕ) (r next : Receiving) : Type 0 where
    refused : next.lists.refused ≡ r.lists.refused
    joined : next.lists.joined ≡ r.lists.joined
    moves : next.lists.moves ≡ r.lists.moves ++ flat_map given (range_with_len heard more)

  record AfterHeard (heard more : ℕ) (r next : Receiving) : Type 0 where
    clients : Heard (heard + more) next.state.clients
    lists : HasHeard heard more r next

  abbrev heard_in : ℕ → Receiving → Receiving
  heard_in slot r = receiving_of (with_update r.state (mover slot (last slot) (new slot))) (with_moves r.lists (given slot))

  -- a packet that arrives is answered: the next player is joined, and has new commands
  repeat-answered : (heard : ℕ) (clients : List (Option Client)) → Heard heard clients → heard < players
      → arrives frames frame (heard + 1) ≡ true
      → move_answer clients (heard + 1) (commands_of (Moves (repeat_of seed players frame (heard + 1)))) ≡ Ok (waiter heard (last heard))
  repeat-answered heard clients are below come =
      let slots = are-slots players last new heard clients are in
      let there = found-only (ports_of clients) slots heard (heard + 1) (port-there players last new heard clients are heard below) in
      let count : length (new_among (last heard) (commands_of (Moves (repeat_of seed players frame (heard + 1))))) ≡ frame + 1 - last heard =
      ap (λ (ms : List MovePacket). length ms) (packet-new seed players frames frame (heard + 1) come) ∙ new-length seed players frames frame (heard + 1) come in
      let low = last-low frames (heard + 1) frame in
      let high = last-high frames (heard + 1) frame in
      rw there (rw (are.waiting heard (omega arith) below)
      (new-accepted heard (last heard) (length (new_among (last heard) (commands_of (Moves (repeat_of seed players frame (heard + 1)))))) (omega (arith, count, low)) (omega (arith, count, high))))

  -- and its new commands are accepted
  repeat-accepted : (heard : ℕ) (r : Receiving) (place : ℕ) → Heard heard r.state.clients → heard < players → frame + 1 < 2 ^ 32
      → arrives frames frame (heard + 1) ≡ true
      → after_arrival generated_map frame r place (repeat_from seed players frame (heard + 1)) ≡ heard_in heard r
  repeat-accepted heard r place are below small come =
      let steps = commands_of (Moves (repeat_of seed players frame (heard + 1))) in
      ap (λ packet. after_packet generated_map frame packet r place (heard + 1)) (repeat-read seed players frame (heard + 1) small)
      ∙ ap (λ answer. after_move answer frame steps r place) (repeat-answered heard r.state.clients are below come)
      ∙ ap (λ ms. receiving_of (with_update r.state (with_new_moves (waiter heard (last heard)) ms)) (with_moves r.lists (map (command_in frame heard) ms)))
      (packet-new seed players frames frame (heard + 1) come)

  -- so are those of the players after it, one after another; nothing comes of a packet that is lost
  heard-run : (heard n : ℕ) (r : Receiving) (place : ℕ) → Heard heard r.state.clients → heard + n ≡ players → players ≤ 64
      → frame + 1 < 2 ^ 32
      → AfterHeard heard n r
      (after_arrivals generated_map frame r place (map (repeat_from seed players frame) (filter (arrives frames frame) (range_with_len (heard + 1) n))))
  heard-run heard zero r place are all few small =
      let e : heard + 0 ≡ heard = omega arith in
      record {
        clients = subst (λ j. Heard j r.state.clients) (sym e) are;
        lists = record { refused = refl; joined = refl; moves = sym (append-nil r.lists.moves) };
      }
  heard-run heard (suc n) r place are all few small =
      by (arrives frames frame (heard + 1)) refl (λ s at of. heard-run (heard + 1) n s at of (omega (arith, all)) few small)
    where
      others : List ℕ
      others = filter (arrives frames frame) (range_with_len (heard + 1 + 1) n)

      moves : List Command
      moves = flat_map given (range_with_len (heard + 1) n)

      e : heard + 1 + n ≡ heard + suc n
      e = omega arith

      by : (b : Bool) → arrives frames frame (heard + 1) ≡ b
          → ((s : Receiving) (at : ℕ) → Heard (heard + 1) s.state.clients
          → AfterHeard (heard + 1) n s (after_arrivals generated_map frame s at (map (repeat_from seed players frame) others)))
          → AfterHeard heard (suc n) r
          (after_arrivals generated_map frame r place (map (repeat_from seed players frame) (cond b ((heard + 1) ∷ others) others)))
      by true come run =
          let next = heard_in heard r in
          let first = repeat-accepted heard r place are (omega (arith, all)) small come in
          let rest = run next (place + 1) (heard-next players last new heard r.state.clients are (omega (arith, all)) few) in
          let after = after_arrivals generated_map frame next (place + 1) (map (repeat_from seed players frame) others) in
          subst (λ s. AfterHeard heard (suc n) r (after_arrivals generated_map frame s (place + 1) (map (repeat_from seed players frame) others))) (sym first)
          (record {
            clients = subst (λ j. Heard j after.state.clients) e rest.clients;
            lists = record {
              refused = rest.lists.refused;
              joined = rest.lists.joined;
              moves = rest.lists.moves ∙ append_assoc r.lists.moves (given heard) moves;
            };
          })
      by false lost run =
          let none = none-new seed players frames frame (heard + 1) lost in
          let rest = run r place (heard-none players last new heard r.state.clients are (omega (arith, all)) none) in
          let after = after_arrivals generated_map frame r place (map (repeat_from seed players frame) others) in
          record {
            clients = subst (λ j. Heard j after.state.clients) e rest.clients;
            lists = record {
              refused = rest.lists.refused;
              joined = rest.lists.joined;
              moves = rest.lists.moves ∙ ap (λ ms. r.lists.moves ++ (map (command_in frame heard) ms ++ moves)) (sym none);
            };
          }

  -- ---- the moves of each

  -- all moves of a slot are its own
  own-moves : (slot : ℕ) (ms : List MovePacket) → moves_of slot (map (command_in frame slot) ms) ≡ map (command_in frame slot) ms
  own-moves slot [] = refl
  own-moves slot (m ∷ ms) =
      let same : eqb slot slot ≡ true = eq-eqb slot slot refl in
      rw same (ap (λ cs. command_in frame slot m ∷ cs) (own-moves slot ms))

  -- and none of another
  other-moves : (slot other : ℕ) (ms : List MovePacket) → (other ≡ slot → ⊥) → moves_of slot (map (command_in frame other) ms) ≡ []
  other-moves slot other [] apart = refl
  other-moves slot other (m ∷ ms) apart = let differ : eqb other slot ≡ false = ne_eqb other slot apart in rw differ (other-moves slot other ms apart)

  no-moves : (slot a n : ℕ) → ((other : ℕ) → a ≤ other → other < a + n → other ≡ slot → ⊥)
      → moves_of slot (flat_map given (range_with_len a n)) ≡ []
  no-moves slot a zero apart = refl
  no-moves slot a (suc n) apart =
      let first = other-moves slot a (new a) (apart a (omega arith) (omega arith)) in
      let rest = no-moves slot (a + 1) n (λ other low high. apart other (omega (arith, low)) (omega (arith, high))) in
      filter-append (λ c. eqb c.slot slot) (given a) (flat_map given (range_with_len (a + 1) n))
      ∙ ap (λ cs. cs ++ moves_of slot (flat_map given (range_with_len (a + 1) n))) first ∙ rest

  -- so among those of all players a slot has its own
  slot-moves : (slot a n : ℕ) → a ≤ slot → slot < a + n → moves_of slot (flat_map given (range_with_len a n)) ≡ given slot
  slot-moves slot a zero low high = absurd (omega arith)
  slot-moves slot a (suc n) low high =
      let more = flat_map given (range_with_len (a + 1) n) in
      filter-append (λ c. eqb c.slot slot) (given a) more
      ∙ elim (cases_eq a slot) [
        | inl same ↦
            let rest = no-moves slot (a + 1) n (λ other from _ is. omega (arith, from, is, same)) in
            ap (λ cs. moves_of slot (given a) ++ cs) rest ∙ append-nil (moves_of slot (given a))
            ∙ ap (λ s. moves_of slot (given s)) same ∙ own-moves slot (new slot)
        | inr apart ↦
            ap (λ cs. cs ++ moves_of slot more) (other-moves slot a (new a) apart)
            ∙ slot-moves slot (a + 1) n (omega (arith, low, apart)) (omega (arith, high))
      ]

  -- ---- a frame

  -- the players go on, with the last number that came
  plays-on : (state : State) (records : List (Option Rec)) → Heard players state.clients → length records ≡ IDS
      → ArePlayingUpTo players (λ slot. last_before frames (slot + 1) (frame + 1)) (finished (state_of state.clients records)).clients
  plays-on state records are many = record {
    slots = finished-length (state_of state.clients records) ∙ are.slots;
    joined = λ slot below.
        (leavers_out (state_of state.clients records) are.slots many slot).0 ∙ ap finished_client (are.done slot below)
        ∙ ap (λ n. Some (client (slot + 1) n false 0)) (new-last seed players frames frame (slot + 1));
    free = λ slot above. (leavers_out (state_of state.clients records) are.slots many slot).0 ∙ ap finished_client (are.free slot above);
  }

  -- after the joins, if there are any
  come-once : (r : Receiving) (place : ℕ) → Heard 0 r.state.clients → players ≤ 64 → frame + 1 < 2 ^ 32 → r.lists.refused ≡ [] → r.lists.joined ≡ joined_in players frame
      → r.lists.moves ≡ []
      → OnlyNewAreAccepted seed players frames frame (after_arrivals generated_map frame r place (repeats_in seed players frames frame))
  come-once r place are few small none joined no_moves =
      let all : 0 + players ≡ players = omega arith in
      let run = heard-run 0 players r place are all few small in
      let next = after_arrivals generated_map frame r place (repeats_in seed players frames frame) in
      let moves : next.lists.moves ≡ flat_map given (range_with_len 0 players) =
      run.lists.moves ∙ ap (λ ms. ms ++ flat_map given (range_with_len 0 players)) no_moves in
      record {
        refused = run.lists.refused ∙ none;
        joined = run.lists.joined ∙ joined;
        moves = λ slot below. ap (moves_of slot) moves ∙ slot-moves slot 0 players (omega arith) (omega (arith, below));
        others = λ slot above. ap (moves_of slot) moves ∙ no-moves slot 0 players (λ other _ high is. omega (arith, above, high, is));
        plays_on = λ records many. plays-on next.state records (subst (λ j. Heard j next.state.clients) all run.clients) many;
      }

first-frame : (seed players frames : ℕ) (state : State) → players ≤ 64 → ArePlaying 0 0 state.clients → length state.records ≡ IDS
    → AreClearOfSpawns state.records → OnlyNewAreAccepted seed players frames 0 (received generated_map 0 state (resent_in seed players frames 0))
unfolding received
first-frame seed players frames state few nobody many clear =
    let start = receiving_of state no_lists in
    let none_yet : AreJoined 0 state = record {
      slots = nobody.slots;
      joined = λ slot below. absurd (omega arith);
      free = nobody.free;
      places = many;
      players = λ slot below. absurd (omega arith);
      others = λ id _ r e solid. clear id r e solid;
    } in
    let joins = map join_from (ports players) in
    let within : 0 + players ≤ 64 = omega arith in
    let run = joins-run 0 players start 0 none_yet within in
    let after = after_arrivals generated_map 0 start 0 joins in
    let all : 0 + players ≡ players = omega arith in
    let are : AreJoined players after.state = subst (λ k. AreJoined k after.state) all run.state in
    let waiting : Heard seed players frames 0 0 after.state.clients = record {
      slots = are.slots;
      done = λ slot below. absurd (omega arith);
      waiting = λ slot _ below. are.joined slot below;
      free = are.free;
    } in
    subst (OnlyNewAreAccepted seed players frames 0) (sym (after_arrivals-append generated_map 0 start 0 joins (repeats_in seed players frames 0)))
    (come-once seed players frames 0 after (0 + length joins) waiting few (lit< tt) run.lists.refused run.lists.joined run.lists.moves)

later-frame : (seed players frames frame : ℕ) (state : State) → players ≤ 64 → 0 < frame → frame + 1 < 2 ^ 32
    → ArePlayingUpTo players (λ slot. last_before frames (slot + 1) frame) state.clients → length state.records ≡ IDS
    → OnlyNewAreAccepted seed players frames frame (received generated_map frame state (resent_in seed players frames frame))
unfolding received
later-frame seed players frames frame state few later small playing many =
    let start = receiving_of state no_lists in
    let waiting : Heard seed players frames frame 0 state.clients = record {
      slots = playing.slots;
      done = λ slot below. absurd (omega arith);
      waiting = λ slot _ below. playing.joined slot below;
      free = playing.free;
    } in
    let not_first : eqb frame 0 ≡ false = grind (arith, nat_tests) in
    let joined = ap (λ b. cond b (map joined_as (range_with_len 0 players)) []) not_first in
    subst (λ js. OnlyNewAreAccepted seed players frames frame (after_arrivals generated_map frame start 0 (js ++ repeats_in seed players frames frame)))
    (sym (no-joins players frame later))
    (come-once seed players frames frame start 0 waiting few small refl (sym joined) refl)

pub commands_arrive_once : CommandsArriveOnce
commands_arrive_once = record { first = first-frame; later = later-frame; before = last-is; each_once = each-once }
