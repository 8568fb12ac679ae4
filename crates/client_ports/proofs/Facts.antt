-- The laws of the receive pass.
use Rattle.std.proofs.Common.{◌≡◌, ◌⊎◌, ℕ, zero, suc, ◌+◌, ◌<◌, ◌≤◌, ◌==◌, Bool, true, false, ◌&&◌, ◌||◌, not, nat_lt, if◌then◌else◌, List, [], ◌∷◌, length, Option, Some, None, option_map, Result, Ok, Err, ok_or, IfOk, sym, refl, ap, ◌∙◌, subst, inl, inr, arith}
use Rattle.std.specs.Prelude.{◌↔◌, Contains}
use Rattle.std.specs.Prelude.{map as map_list}
use Rattle.std.specs.List.{find}
use Rattle.std.proofs.lemmas.Bool.{ne_eqb}
use Rattle.std.proofs.lemmas.Bool.Decides.{nat_tests}
use Rattle.std.proofs.lemmas.Option.{none-some, same_Some}
use Rattle.arena_geo.specs.declared.vec3.Vec3.{Vec3}
use Rattle.arena_geo.specs.Bounds.{Bounds}
use Rattle.arena_geo.specs.Boxes.{overlaps, is_blocked}
use Rattle.entity_recs.specs.declared.rec.Rec.{Rec}
use Rattle.entity_recs.specs.Bodies.{body_of, player_body}
use Rattle.entity_recs.specs.Kinds.{is_solid}
use Rattle.entity_recs.proofs.Elements.{contains_kept, contains_before, kept_passes}
use Rattle.packet_read.specs.declared.packet.Packet.{Packet}
use Rattle.packet_read.specs.declared.packet.Packet.TheVariants.{Join, Move, Leave, Moves}
use Rattle.packet_read.specs.declared.packet_fault.PacketFault.{PacketFault}
use Rattle.packet_read.specs.declared.move_packet.MovePacket.{MovePacket}
use Rattle.packet_read.specs.Reading.{reading}
use Rattle.entity_slots.specs.declared.join_fault.JoinFault.{JoinFault}
use Rattle.entity_slots.specs.Ports as slots
use Rattle.entity_slots.specs.FreeSlots.{slot_for, IsLeastFree}
use Rattle.entity_slots.proofs.Found.{slot_for-least, slot_of-joined}
use Rattle.arena_map.specs.Maps.{MapView, solids_of}
use Rattle.world_tree.specs.Live.{record_at}
use Rattle.world_tree.specs.Queries.{is_free, solids_in}
use Rattle.packet_read.specs.declared.arrival.Arrival.{Arrival}
use Rattle.client_ports.specs.declared.client.Client.{Client}
use Rattle.client_ports.specs.declared.client.LiveSlot.{LiveSlot}
use Rattle.client_ports.specs.declared.refusal.Refusal.{Refusal}
use Rattle.client_ports.specs.declared.refusal.Refusal.TheVariants as refusal
use Rattle.client_ports.specs.declared.spawns.JoinPoint.{JoinPoint}
use Rattle.client_ports.specs.Clients.{client, client_at, port_of, ports_of, live_slot, live_at, live_with, AreClients}
use Rattle.client_ports.specs.States.{State, IsState}
use Rattle.packet_read.specs.Commands.{commands_of}
use Rattle.client_ports.specs.NewMoves.{new_among, numbers_in, last_in}
use Rattle.client_ports.specs.FirstRefusals.{free_spawn, join_point, join_point_in, join_answer, live_slot_leaving, leave_by, leave_answer, with_new_moves, move_by, move_answer}
use Rattle.client_ports.specs.Receiving.{Receiving, after_join, after_leave, after_move, after_packet, after_arrival, command_in}
use Rattle.client_ports.specs.Laws.{IsClear, AreAccepted, AcceptedNumbersRise, IsAcceptedLeave, IsRefused, IsJoined, IsLeave, AreCommandsOf, IsMove}
use Rattle.client_ports.proofs.NewMoves.{Rise, new-rise, commands-rise}
use Rattle.client_ports.proofs.Slots.{port_at-client, port_of-none}
use Rattle.client_ports.proofs.Live.{free-record}

-- two results that are one have one value
pub same_Ok : {X E : Type 0} (x y : X) → ◌≡◌ {A = Result X E} (Ok x) (Ok y) → x ≡ y
same_Ok {X} {E} x y e = ap (λ (r : Result X E). elim r [ Ok v ↦ v | Err f ↦ x ]) e

-- no two live slots share a port
pub ports_apart : (clients : List (Option Client)) → AreClients clients → (i j : ℕ) (c d : Client) → client_at clients i ≡ Some c → client_at clients j ≡ Some d → c.port ≡ d.port → i ≡ j
ports_apart clients are i j c d at_i at_j same =
    are.slots.apart i j c.port
    (port_at-client clients i ∙ ap port_of at_i)
    (port_at-client clients j ∙ ap port_of at_j ∙ ap Some (sym same))

-- ---- joins

-- what a join that has a slot gets
pub record IsGot (map : MapView) (records : List (Option Rec)) (slots : Result ℕ JoinFault) (to : JoinPoint) : Type 0 where
  pub slot : slots ≡ Ok to.slot
  pub spawn : free_spawn (solids_of map) records to.slot map.spawns ≡ Some to.at

pub got : (map : MapView) (records : List (Option Rec)) (slots : Result ℕ JoinFault) (to : JoinPoint) → join_point_in map records slots ≡ Ok to → IsGot map records slots to
got map records (Err why) to e = absurd (err-ok e)
  where
    err-ok : {X E : Type 0} {x : X} {f : E} → ◌≡◌ {A = Result X E} (Err f) (Ok x) → ⊥
    err-ok h = cc
got map records (Ok slot) to e = by (free_spawn (solids_of map) records slot map.spawns) refl e
  where
    by : (o : Option Vec3) → free_spawn (solids_of map) records slot map.spawns ≡ o → ok_or (option_map (join_point slot) o) refusal.Crowded ≡ Ok to → IsGot map records (Ok slot) to
    by None f h = cc
    by (Some at) f h =
        let same = same_Ok (join_point slot at) to h in
        let P : JoinPoint → Type 0 = λ p. IsGot map records (Ok slot) p in
        subst P same (record { slot = refl; spawn = f })

-- the slot of a join is the least free one
pub slot_least : (map : MapView) (state : State) (port : ℕ) (to : JoinPoint) → AreClients state.clients → join_answer map state port ≡ Ok to → IsLeastFree (ports_of state.clients) to.slot
slot_least map state port to are e =
    let g = got map state.records (slot_for (ports_of state.clients) port) to e in
    let P : Result ℕ JoinFault → Type 0 = λ r. IfOk r (IsLeastFree (ports_of state.clients)) in
    subst P g.slot (slot_for-least (ports_of state.clients) port are.slots.count)

-- ---- moves

pub live_at-found : (clients : List (Option Client)) (slot : Option ℕ) (live : LiveSlot) → live_at clients slot ≡ Some live → client_at clients live.slot ≡ Some live.client
live_at-found clients None live e = absurd (none-some live e)
live_at-found clients (Some slot) live e = by (client_at clients slot) refl e
  where
    by : (o : Option Client) → client_at clients slot ≡ o → option_map (live_slot slot) o ≡ Some live → client_at clients live.slot ≡ Some live.client
    by None f h = absurd (none-some live h)
    by (Some c) f h =
        let same = same_Some (live_slot slot c) live h in
        let P : LiveSlot → Type 0 = λ l. client_at clients l.slot ≡ Some l.client in
        subst P same f

-- the new commands are those of the packet whose number is above the last one
new-each : (last : ℕ) (steps : List MovePacket) (m : MovePacket) → Contains (new_among last steps) m ↔ (Contains steps m × last < m.seq)
new-each last steps m =
    let above = λ (n : MovePacket). nat_lt last n.seq in
    (λ new. (contains_before above steps m new, lt-from (kept_passes above steps m new)), λ both. contains_kept above steps m both.0 (to-lt both.1))
  where
    lt-from : nat_lt last m.seq ≡ true → last < m.seq
    lt-from is = grind (arith, nat_tests)

    to-lt : last < m.seq → nat_lt last m.seq ≡ true
    to-lt below = grind (arith, nat_tests)

-- the commands of an accepted move packet have numbers above the last one, and are few
pub steps_accepted : (clients : List (Option Client)) (port : ℕ) (steps : List MovePacket) (live : LiveSlot) → Rise (numbers_in steps) → move_answer clients port steps ≡ Ok live
    → AreAccepted clients steps (new_among live.client.last steps) (with_new_moves live (new_among live.client.last steps))
steps_accepted clients port steps live rise e = by (live_with clients port) refl e
  where
    some-false : (n : ℕ) → (n == 0) ≡ false → 1 ≤ n
    some-false n h = grind (arith, nat_tests)

    few-false : (n : ℕ) → nat_lt 8 n ≡ false → n ≤ 8
    few-false n h = grind (arith, nat_tests)

    at : (l : LiveSlot) → client_at clients l.slot ≡ Some l.client → (leaves none many : Bool) → l.client.leaves ≡ leaves
        → (length (new_among l.client.last steps) == 0) ≡ none → nat_lt 8 (l.client.moves + length (new_among l.client.last steps)) ≡ many
        → (if leaves then Err refusal.Leaving else if none then Err refusal.Old else if many then Err refusal.Many else Ok l) ≡ Ok live
        → AreAccepted clients steps (new_among live.client.last steps) (with_new_moves live (new_among live.client.last steps))
    at l in_slot true none many a b c h = cc
    at l in_slot false true many a b c h = cc
    at l in_slot false false true a b c h = cc
    at l in_slot false false false a b c h =
        let same = same_Ok l live h in
        let P : LiveSlot → Type 0 = λ k. AreAccepted clients steps (new_among k.client.last steps) (with_new_moves k (new_among k.client.last steps)) in
        subst P same (record {
          was = l.client;
          in_slot = in_slot;
          stays = a;
          are_new = refl;
          each = new-each l.client.last steps;
          some = some-false (length (new_among l.client.last steps)) b;
          rise = new-rise l.client.last steps rise;
          few = few-false (l.client.moves + length (new_among l.client.last steps)) c;
          is = ap (λ (leaves : Bool). client l.client.port (last_in l.client.last (numbers_in (new_among l.client.last steps))) leaves (l.client.moves + length (new_among l.client.last steps))) a;
        })

    by : (o : Option LiveSlot) → live_with clients port ≡ o → move_by o steps ≡ Ok live
        → AreAccepted clients steps (new_among live.client.last steps) (with_new_moves live (new_among live.client.last steps))
    by None f h = cc
    by (Some l) f h =
        at l (live_at-found clients (slots.slot_of (ports_of clients) port) l f) l.client.leaves (length (new_among l.client.last steps) == 0)
        (nat_lt 8 (l.client.moves + length (new_among l.client.last steps))) refl refl refl h

-- so are those of a packet
pub move_accepted : AcceptedNumbersRise
move_accepted clients port packet live e = steps_accepted clients port (commands_of packet) live (commands-rise packet) e

-- an accepted leave
pub leave_accepted : (clients : List (Option Client)) (port : ℕ) (live : LiveSlot) → leave_answer clients port ≡ Ok live → IsAcceptedLeave clients live
leave_accepted clients port live e = by (live_with clients port) refl e
  where
    at : (l : LiveSlot) → client_at clients l.slot ≡ Some l.client → (leaves : Bool) → l.client.leaves ≡ leaves
        → (if leaves then Err refusal.Leaving else Ok (live_slot_leaving l)) ≡ Ok live → IsAcceptedLeave clients live
    at l in_slot true a h = cc
    at l in_slot false a h =
        let same = same_Ok (live_slot_leaving l) live h in
        let P : LiveSlot → Type 0 = λ m. IsAcceptedLeave clients m in
        subst P same (record { was = l.client; in_slot = in_slot; stays = a; is = refl })

    by : (o : Option LiveSlot) → live_with clients port ≡ o → leave_by o ≡ Ok live → IsAcceptedLeave clients live
    by None f h = cc
    by (Some l) f h = at l (live_at-found clients (slots.slot_of (ports_of clients) port) l f) l.client.leaves refl h

-- the client that is found for a port has this port
pub live_with-own : (clients : List (Option Client)) (port : ℕ) (live : LiveSlot) → live_with clients port ≡ Some live → live.client.port ≡ port
live_with-own clients port live e = by (slots.slot_of (ports_of clients) port) refl e
  where
    by : (o : Option ℕ) → slots.slot_of (ports_of clients) port ≡ o → live_at clients o ≡ Some live → live.client.port ≡ port
    by None f h = absurd (none-some live h)
    by (Some slot) f h =
        let own = (slot_of-joined (ports_of clients) slot port f).1 in
        let same : live.slot ≡ slot = slot-is (client_at clients slot) h in
        let here = ap port_of (sym (live_at-found clients (Some slot) live h)) in
        same_Some live.client.port port (here ∙ ap (λ (k : ℕ). port_of (client_at clients k)) same ∙ sym (port_at-client clients slot) ∙ own)
      where
        slot-is : (c : Option Client) → option_map (live_slot slot) c ≡ Some live → live.slot ≡ slot
        slot-is None g = absurd (none-some live g)
        slot-is (Some c) g = sym (ap (λ (l : LiveSlot). l.slot) (same_Some (live_slot slot c) live g))

-- so has one that leaves
leave-own : (clients : List (Option Client)) (port : ℕ) (live : LiveSlot) → leave_answer clients port ≡ Ok live → live.client.port ≡ port
leave-own clients port live e = by (live_with clients port) refl e
  where
    at : (l : LiveSlot) → l.client.port ≡ port → (leaves : Bool) → (if leaves then Err refusal.Leaving else Ok (live_slot_leaving l)) ≡ Ok live → live.client.port ≡ port
    at l own true h = cc
    at l own false h = sym (ap (λ (m : LiveSlot). m.client.port) (same_Ok (live_slot_leaving l) live h)) ∙ own

    by : (o : Option LiveSlot) → live_with clients port ≡ o → leave_by o ≡ Ok live → live.client.port ≡ port
    by None f h = cc
    by (Some l) f h = at l (live_with-own clients port l f) l.client.leaves h

-- and one that moves
move-own : (clients : List (Option Client)) (port : ℕ) (steps : List MovePacket) (live : LiveSlot) → move_answer clients port steps ≡ Ok live → live.client.port ≡ port
move-own clients port steps live e = by (live_with clients port) refl e
  where
    at : (l : LiveSlot) → l.client.port ≡ port → (leaves none many : Bool)
        → (if leaves then Err refusal.Leaving else if none then Err refusal.Old else if many then Err refusal.Many else Ok l) ≡ Ok live → live.client.port ≡ port
    at l own true none many h = cc
    at l own false true many h = cc
    at l own false false true h = cc
    at l own false false false h = sym (ap (λ (m : LiveSlot). m.client.port) (same_Ok l live h)) ∙ own

    by : (o : Option LiveSlot) → live_with clients port ≡ o → move_by o steps ≡ Ok live → live.client.port ≡ port
    by None f h = cc
    by (Some l) f h =
        at l (live_with-own clients port l f) l.client.leaves (length (new_among l.client.last steps) == 0)
        (nat_lt 8 (l.client.moves + length (new_among l.client.last steps))) h

-- ---- one answer

module _ (map : MapView) (frame : ℕ) (r : Receiving) (place : ℕ) (a : Arrival) where
  -- a refusal, a join, a leave or a move
  abbrev IsAnswer : Receiving → Type 0
  IsAnswer next = (IsRefused r next place ⊎ IsJoined map r next a) ⊎ (IsLeave r next a ⊎ IsMove frame r next a)

  join-one : reading a.bytes ≡ Ok Join → (to : Result JoinPoint Refusal) → join_answer map r.state a.port ≡ to → IsAnswer (after_join to r place a.port)
  join-one read (Err why) e = inl (inl (record { why = why; state = refl; lists = refl }))
  join-one read (Ok to) e = inl (inr (record { to = to; read = read; answer = e; state = refl; lists = refl }))

  leave-one : reading a.bytes ≡ Ok Leave → (to : Result LiveSlot Refusal) → leave_answer r.state.clients a.port ≡ to → IsAnswer (after_leave to r place)
  leave-one read (Err why) e = inl (inl (record { why = why; state = refl; lists = refl }))
  leave-one read (Ok live) e = inr (inl (record {
    live = live;
    read = read;
    answer = e;
    own_port = leave-own r.state.clients a.port live e;
    accepted = leave_accepted r.state.clients a.port live e;
    state = refl;
    lists = refl;
  }))

  -- each command is that of its move
  commands-are : (slot : ℕ) (steps : List MovePacket) → AreCommandsOf frame slot steps (map_list (command_in frame slot) steps)
  commands-are slot [] = tt
  commands-are slot (m ∷ steps) = (record { in_frame = refl; in_slot = refl; seq = refl; ms = refl; wish_x = refl; wish_y = refl; buttons = refl }, commands-are slot steps)

  move-one : (packet : Packet) → reading a.bytes ≡ Ok packet → (to : Result LiveSlot Refusal) → move_answer r.state.clients a.port (commands_of packet) ≡ to
      → IsAnswer (after_move to frame (commands_of packet) r place)
  move-one packet read (Err why) e = inl (inl (record { why = why; state = refl; lists = refl }))
  move-one packet read (Ok live) e =
      let new = new_among live.client.last (commands_of packet) in
      inr (inr (record {
        live = with_new_moves live new;
        packet = packet;
        new = new;
        commands = map_list (command_in frame live.slot) new;
        read = read;
        of_packet = commands-are live.slot new;
        own_port = move-own r.state.clients a.port (commands_of packet) live e;
        accepted = move_accepted r.state.clients a.port packet live e;
        state = refl;
        lists = refl;
      }))

  packet-one : (read : Result Packet PacketFault) → reading a.bytes ≡ read → IsAnswer (after_packet map frame read r place a.port)
  packet-one (Err why) e = inl (inl (record { why = refusal.Packet why; state = refl; lists = refl }))
  packet-one (Ok Join) e = join-one e (join_answer map r.state a.port) refl
  packet-one (Ok Leave) e = leave-one e (leave_answer r.state.clients a.port) refl
  packet-one (Ok (Move m)) e = move-one (Move m) e (move_answer r.state.clients a.port (commands_of (Move m))) refl
  packet-one (Ok (Moves s)) e = move-one (Moves s) e (move_answer r.state.clients a.port (commands_of (Moves s))) refl

  pub one_answer : let next = after_arrival map frame r place a in (IsRefused r next place ⊎ IsJoined map r next a) ⊎ (IsLeave r next a ⊎ IsMove frame r next a)
  one_answer = packet-one (reading a.bytes) refl

-- ---- clear places

-- what is found passes
find-passes : {X : Type 0} (p : X → Bool) (xs : List X) (x : X) → find p xs ≡ Some x → p x ≡ true
find-passes p [] x e = absurd (none-some x e)
find-passes {X} p (y ∷ ys) x e = by (p y) refl e (find-passes p ys x)
  where
    by : (b : Bool) → p y ≡ b → (if b then Some y else find p ys) ≡ Some x → (find p ys ≡ Some x → p x ≡ true) → p x ≡ true
    by true f h more = sym (ap p (same_Some y x h)) ∙ f
    by false f h more = more h

both_not : (a b : Bool) → (not a && not b) ≡ true → (a ≡ false) × (b ≡ false)
both_not false false h = (refl, refl)
both_not false true h = cc
both_not true b h = cc

-- where no body of the live solids but one overlaps the body, that of no live solid does whose id is another
pub clear-live : (body : Bounds) (records : List (Option Rec)) (except : ℕ) → is_blocked body (map_list body_of (solids_in records except)) ≡ false
    → (id : ℕ) (r : Rec) → record_at records id ≡ Some r → is_solid r.kind ≡ true → (r.id == except) ≡ false → overlaps body (body_of r) ≡ false
clear-live body [] except h id r e solid apart = absurd (none-some r e)
clear-live body (None ∷ records) except h zero r e solid apart = absurd (none-some r e)
clear-live body (None ∷ records) except h (suc id) r e solid apart = clear-live body records except h id r e solid apart
clear-live body (Some s ∷ records) except h id r e solid apart = by (is_solid s.kind && not (s.id == except)) refl h id e (λ g k f. clear-live body records except g k r f solid apart)
  where
    rest : List Rec
    rest = solids_in records except

    first : (a b : Bool) → (a || b) ≡ false → (a ≡ false) × (b ≡ false)
    first false b h = (refl, h)
    first true b h = cc

    here : s ≡ r → (is_solid s.kind && not (s.id == except)) ≡ true
    here same = subst (λ (t : Rec). (is_solid t.kind && not (t.id == except)) ≡ true) (sym same) (both_true (is_solid r.kind) (r.id == except) solid apart)
      where
        both_true : (a b : Bool) → a ≡ true → b ≡ false → (a && not b) ≡ true
        both_true true false p q = refl
        both_true true true p q = cc
        both_true false b p q = cc

    by : (taken : Bool) → (is_solid s.kind && not (s.id == except)) ≡ taken → is_blocked body (map_list body_of (if taken then s ∷ rest else rest)) ≡ false
        → (id : ℕ) → record_at (Some s ∷ records) id ≡ Some r
        → (is_blocked body (map_list body_of rest) ≡ false → (k : ℕ) → record_at records k ≡ Some r → overlaps body (body_of r) ≡ false) → overlaps body (body_of r) ≡ false
    by true t g zero f more =
        let parts = first (overlaps body (body_of s)) (is_blocked body (map_list body_of rest)) g in
        subst (λ (x : Rec). overlaps body (body_of x) ≡ false) (same_Some s r f) parts.0
    by true t g (suc id) f more = more (first (overlaps body (body_of s)) (is_blocked body (map_list body_of rest)) g).1 id f
    by false t g zero f more = absurd (true-false (sym (here (same_Some s r f)) ∙ t))
      where
        true-false : true ≡ false → ⊥
        true-false h = cc
    by false t g (suc id) f more = more g id f

-- nobody is added into a solid
pub join_clear : (map : MapView) (state : State) (port : ℕ) (to : JoinPoint) → AreClients state.clients → IsState map state → join_answer map state port ≡ Ok to → IsClear map state to
join_clear map state port to are is e =
    let g = got map state.records (slot_for (ports_of state.clients) port) to e in
    let least = slot_least map state port to are e in
    let free = find-passes (λ at. is_free state.records (player_body at) (solids_of map) to.slot) map.spawns to.at g.spawn in
    let parts = both_not (is_blocked (player_body to.at) (solids_of map)) (is_blocked (player_body to.at) (map_bodies to.slot)) free in
    let gone = free-record state.clients state.records to.slot least.in_range is.live (port_of-none (client_at state.clients to.slot) (sym (port_at-client state.clients to.slot) ∙ least.free)) in
    record {
      of_the_map = parts.0;
      of_the_live = λ id r at solid. clear-live (player_body to.at) state.records to.slot parts.1 id r at solid
          (ne_eqb r.id to.slot (λ same. none-some r (sym gone ∙ ap (record_at state.records) (sym same ∙ (is.valid.each id r at).own_id) ∙ at)));
    }
  where
    map_bodies : ℕ → List Bounds
    map_bodies slot = map_list body_of (solids_in state.records slot)
