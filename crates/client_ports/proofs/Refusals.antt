-- That a packet is refused exactly where the refusal holds.
use Rattle.std.proofs.Common.{◌≡◌, ◌↔◌, ℕ, suc, ◌+◌, ◌≤◌, ◌==◌, Bool, true, false, ◌&&◌, ◌||◌, not, nat_lt, cond, if◌then◌else◌, List, [], ◌∷◌, ◌++◌, length, take, All, slice_get, Option, Some, None, is_some, is_none, option_map, Result, Ok, Err, ok_or, sym, refl, ap, ◌∙◌, subst, inl, inr, arith}
use Rattle.std.specs.Prelude.{map as map_list}
use Rattle.std.specs.List.{find}
use Rattle.std.proofs.lemmas.Bool.{eqb-true, ne_eqb, lt-ltb, ltb-false, ltb-true, and_parts}
use Rattle.std.proofs.lemmas.Bool.Decides.{nat_tests}
use Rattle.std.proofs.lemmas.List.{length_push}
use Rattle.std.proofs.lemmas.List.Elements.{All-cons, All-head, All-nil, All-tail, All-weaker}
use Rattle.std.proofs.lemmas.Option.{none-some, same_Some}
use Rattle.arena_geo.specs.declared.vec3.Vec3.{Vec3}
use Rattle.arena_geo.specs.Boxes.{overlaps, is_blocked}
use Rattle.entity_recs.specs.declared.rec.Rec.{Rec}
use Rattle.entity_recs.specs.Bodies.{body_of, player_body}
use Rattle.entity_recs.specs.Kinds.{is_solid}
use Rattle.packet_read.specs.declared.move_packet.MovePacket.{MovePacket}
use Rattle.packet_read.specs.declared.packet.Packet.{Packet}
use Rattle.packet_read.specs.declared.packet.Packet.TheVariants.{Join, Move, Leave, Moves}
use Rattle.packet_read.specs.declared.packet_fault.PacketFault.{PacketFault}
use Rattle.packet_read.specs.Commands.{commands_of}
use Rattle.packet_read.specs.Reading.{reading}
use Rattle.entity_slots.specs.declared.join_fault.JoinFault.{JoinFault}
use Rattle.entity_slots.specs.declared.join_fault.JoinFault.TheVariants as fault
use Rattle.entity_slots.specs.Ports.{has_port, is_joined, is_full, slot_of}
use Rattle.entity_slots.specs.FreeSlots.{free_slot, slot_for, IsLeastFree}
use Rattle.entity_slots.proofs.Found.{found-only, free_slot-least, is_full-free, list_any-position, slot_of-joined}
use Rattle.arena_map.specs.Maps.{MapView, solids_of}
use Rattle.world_tree.specs.Live.{record_at}
use Rattle.world_tree.specs.Queries.{is_free, solids_in}
use Rattle.packet_read.specs.declared.arrival.Arrival.{Arrival}
use Rattle.packet_read.proofs.Rules.{some_of}
use Rattle.client_ports.specs.declared.client.Client.{Client}
use Rattle.client_ports.specs.declared.client.LiveSlot.{LiveSlot}
use Rattle.client_ports.specs.declared.received.Refused.{Refused}
use Rattle.client_ports.specs.declared.refusal.Refusal.{Refusal}
use Rattle.client_ports.specs.declared.refusal.Refusal.TheVariants as refusal
use Rattle.client_ports.specs.declared.spawns.JoinPoint.{JoinPoint}
use Rattle.client_ports.specs.Clients.{client_at, port_of, ports_of, live_slot, live_at, live_with, AreClients}
use Rattle.client_ports.specs.States.{State, IsState}
use Rattle.client_ports.specs.FirstRefusals.{free_spawn, join_point, join_point_in, join_answer, live_slot_leaving, leave_by, leave_answer, move_by, move_answer}
use Rattle.client_ports.specs.NewMoves.{new_among}
use Rattle.client_ports.specs.Receiving.{Receiving, after_refusal, after_join, after_leave, after_move, after_packet, after_arrival}
use Rattle.client_ports.specs.Refusals.{OverlapsALiveSolid, HasNoRoom, is_move, is_leave_or_move, IsClientOf, FindsNoRoom, IsMoveOf, RefusalHolds}
use Rattle.client_ports.specs.Laws.{IsAtFirstRoom}
use Rattle.client_ports.proofs.Facts.{got, clear-live, join_clear, live_at-found, live_with-own}
use Rattle.client_ports.proofs.Live.{free-record}
use Rattle.client_ports.proofs.Slots.{port_at-client, port_of-none}

true-false : true ≡ false → ⊥
true-false h = cc

-- ---- a refusal and its answer

-- the refusal of an answer
abbrev refusal_in : {X : Type 0} → Result X Refusal → Option Refusal
refusal_in (Ok x) = None
refusal_in (Err why) = Some why

-- the refusal of a packet, where it is refused
abbrev refusal_for : MapView → State → Result Packet PacketFault → ℕ → Option Refusal
refusal_for map state (Err why) port = Some (refusal.Packet why)
refusal_for map state (Ok Join) port = refusal_in (join_answer map state port)
refusal_for map state (Ok Leave) port = refusal_in (leave_answer state.clients port)
refusal_for map state (Ok (Move m)) port = refusal_in (move_answer state.clients port (commands_of (Move m)))
refusal_for map state (Ok (Moves s)) port = refusal_in (move_answer state.clients port (commands_of (Moves s)))

-- a refusal is told from another by the last one of the list
same-refusal : (r : Receiving) (place : ℕ) (why other : Refusal) → after_refusal r place why ≡ after_refusal r place other → why ≡ other
same-refusal r place why other e = ap (λ (f : Refused). f.why) last
  where
    one : Refusal → Refused
    one w = record { place = place; why = w }

    at : (w : Refusal) → Refused
    at w = one w

    lists : r.lists.refused ++ one why ∷ [] ≡ r.lists.refused ++ one other ∷ []
    lists = ap (λ (n : Receiving). n.lists.refused) e

    last-of : List Refused → Refused
    last-of [] = one why
    last-of (x ∷ []) = x
    last-of (x ∷ y ∷ xs) = last-of (y ∷ xs)

    last-push : (xs : List Refused) (x : Refused) → last-of (xs ++ x ∷ []) ≡ x
    last-push [] x = refl
    last-push (y ∷ []) x = refl
    last-push (y ∷ z ∷ xs) x = last-push (z ∷ xs) x

    last : one why ≡ one other
    last = sym (last-push r.lists.refused (one why)) ∙ ap last-of lists ∙ last-push r.lists.refused (one other)

-- a list that stays is told from one with a refusal more by its length
not-refused : (r next : Receiving) (place : ℕ) (why : Refusal) → next.lists.refused ≡ r.lists.refused → next ≡ after_refusal r place why → ⊥
not-refused r next place why kept e =
    let longer = ap (λ (n : Receiving). length n.lists.refused) e in
    let same = ap (λ (l : List Refused). length l) kept in
    let one : Refused = record { place = place; why = why } in
    absurd (omega (arith, longer, same, length_push r.lists.refused one))

-- a move packet is refused where its answer is a refusal
move-refused : (frame : ℕ) (steps : List MovePacket) (r : Receiving) (place : ℕ) (why : Refusal) (to : Result LiveSlot Refusal)
    → (after_move to frame steps r place ≡ after_refusal r place why) ↔ (refusal_in to ≡ Some why)
move-refused frame steps r place why (Err w) = (λ e. ap Some (same-refusal r place w why e), λ e. ap (after_refusal r place) (same_Some w why e))
move-refused frame steps r place why (Ok live) = (λ e. absurd (not-refused r (after_move (Ok live) frame steps r place) place why refl e), λ e. absurd (none-some why e))

-- a packet is refused where it has a cause, for that cause
refused-is : (arena : MapView) (frame : ℕ) (read : Result Packet PacketFault) (r : Receiving) (place port : ℕ) (why : Refusal)
    → (after_packet arena frame read r place port ≡ after_refusal r place why) ↔ (refusal_for arena r.state read port ≡ Some why)
refused-is arena frame (Err f) r place port why =
    (λ e. ap Some (same-refusal r place (refusal.Packet f) why e), λ e. ap (after_refusal r place) (same_Some (refusal.Packet f) why e))
refused-is arena frame (Ok Join) r place port why = by (join_answer arena r.state port)
  where
    by : (to : Result JoinPoint Refusal) → (after_join to r place port ≡ after_refusal r place why) ↔ (refusal_in to ≡ Some why)
    by (Err w) = (λ e. ap Some (same-refusal r place w why e), λ e. ap (after_refusal r place) (same_Some w why e))
    by (Ok to) = (λ e. absurd (not-refused r (after_join (Ok to) r place port) place why refl e), λ e. absurd (none-some why e))
refused-is arena frame (Ok Leave) r place port why = by (leave_answer r.state.clients port)
  where
    by : (to : Result LiveSlot Refusal) → (after_leave to r place ≡ after_refusal r place why) ↔ (refusal_in to ≡ Some why)
    by (Err w) = (λ e. ap Some (same-refusal r place w why e), λ e. ap (after_refusal r place) (same_Some w why e))
    by (Ok live) = (λ e. absurd (not-refused r (after_leave (Ok live) r place) place why refl e), λ e. absurd (none-some why e))
refused-is arena frame (Ok (Move m)) r place port why = move-refused frame (commands_of (Move m)) r place why (move_answer r.state.clients port (commands_of (Move m)))
refused-is arena frame (Ok (Moves s)) r place port why = move-refused frame (commands_of (Moves s)) r place why (move_answer r.state.clients port (commands_of (Moves s)))

-- ---- what is found first

module _ {X : Type 0} (p : X → Bool) where
  -- nothing is found where nothing passes
  find-none : (xs : List X) → find p xs ≡ None → All (λ x. p x ≡ false) xs
  find-none [] e = All-nil (λ x. p x ≡ false)
  find-none (y ∷ ys) e = by (p y) refl e (find-none ys)
    where
      by : (b : Bool) → p y ≡ b → (if b then Some y else find p ys) ≡ None → (find p ys ≡ None → All (λ x. p x ≡ false) ys) → All (λ x. p x ≡ false) (y ∷ ys)
      by true f h more = absurd (none-some y (sym h))
      by false f h more = All-cons (λ x. p x ≡ false) y ys f (more h)

  none-find : (xs : List X) → All (λ x. p x ≡ false) xs → find p xs ≡ None
  none-find [] all = refl
  none-find (y ∷ ys) all = by (p y) (All-head (λ x. p x ≡ false) y ys all) (none-find ys (All-tail (λ x. p x ≡ false) y ys all))
    where
      by : (b : Bool) → b ≡ false → find p ys ≡ None → (if b then Some y else find p ys) ≡ None
      by true f more = absurd (true-false f)
      by false f more = more

  -- what is found passes, and none before it does
  record IsFirst (xs : List X) (x : X) : Type 0 where
    number : ℕ
    is : slice_get xs number ≡ Some x
    before : All (λ y. p y ≡ false) (take number xs)

  find-first : (xs : List X) (x : X) → find p xs ≡ Some x → IsFirst xs x
  find-first [] x e = absurd (none-some x e)
  find-first (y ∷ ys) x e = by (p y) refl e (find-first ys x)
    where
      by : (b : Bool) → p y ≡ b → (if b then Some y else find p ys) ≡ Some x → (find p ys ≡ Some x → IsFirst ys x) → IsFirst (y ∷ ys) x
      by true f h more = record { number = 0; is = h; before = All-nil (λ z. p z ≡ false) }
      by false f h more =
          let next = more h in
          record { number = suc next.number; is = next.is; before = All-cons (λ z. p z ≡ false) y (take next.number ys) f next.before }

-- ---- room at a spawn

-- one of the live solids overlaps where their bodies block
blocked-live : (at : Vec3) (records : List (Option Rec)) (except : ℕ) → is_blocked (player_body at) (map_list body_of (solids_in records except)) ≡ true → OverlapsALiveSolid records at
blocked-live at [] except h = absurd (true-false (sym h))
blocked-live at (None ∷ records) except h = let o = blocked-live at records except h in record { id = suc o.id; solid = o.solid; live = o.live; kind = o.kind; overlap = o.overlap }
blocked-live at (Some s ∷ records) except h = by (is_solid s.kind && not (s.id == except)) refl h (blocked-live at records except)
  where
    rest : List Rec
    rest = solids_in records except

    later : OverlapsALiveSolid records at → OverlapsALiveSolid (Some s ∷ records) at
    later o = record { id = suc o.id; solid = o.solid; live = o.live; kind = o.kind; overlap = o.overlap }

    first : is_solid s.kind ≡ true → (b : Bool) → overlaps (player_body at) (body_of s) ≡ b → (b || is_blocked (player_body at) (map_list body_of rest)) ≡ true
        → (is_blocked (player_body at) (map_list body_of rest) ≡ true → OverlapsALiveSolid records at) → OverlapsALiveSolid (Some s ∷ records) at
    first kind true e g more = record { id = 0; solid = s; live = refl; kind = kind; overlap = e }
    first kind false e g more = later (more g)

    by : (taken : Bool) → (is_solid s.kind && not (s.id == except)) ≡ taken → is_blocked (player_body at) (map_list body_of (if taken then s ∷ rest else rest)) ≡ true
        → (is_blocked (player_body at) (map_list body_of rest) ≡ true → OverlapsALiveSolid records at) → OverlapsALiveSolid (Some s ∷ records) at
    by true t g more = first (and_parts (is_solid s.kind) (not (s.id == except)) t).0 (overlaps (player_body at) (body_of s)) refl g more
    by false t g more = later (more g)

-- a place that isn't free has no room
not_free-no_room : (arena : MapView) (records : List (Option Rec)) (slot : ℕ) (at : Vec3) → is_free records (player_body at) (solids_of arena) slot ≡ false → HasNoRoom arena records at
not_free-no_room arena records slot at e = by (is_blocked (player_body at) (solids_of arena)) (is_blocked (player_body at) (map_list body_of (solids_in records slot))) refl refl e
  where
    by : (a b : Bool) → is_blocked (player_body at) (solids_of arena) ≡ a → is_blocked (player_body at) (map_list body_of (solids_in records slot)) ≡ b → (not a && not b) ≡ false
        → HasNoRoom arena records at
    by true b f g h = inl f
    by false true f g h = inr (blocked-live at records slot g)
    by false false f g h = absurd (true-false h)

-- and one without room isn't free, where no record has the id that is passed over
no_room-not_free : (arena : MapView) (records : List (Option Rec)) (slot : ℕ) (at : Vec3) → ((id : ℕ) (r : Rec) → record_at records id ≡ Some r → (r.id == slot) ≡ false)
    → HasNoRoom arena records at → is_free records (player_body at) (solids_of arena) slot ≡ false
no_room-not_free arena records slot at apart (inl e) = by (is_blocked (player_body at) (solids_of arena)) _ e
  where
    by : (a b : Bool) → a ≡ true → (not a && not b) ≡ false
    by true b f = refl
    by false b f = absurd (true-false (sym f))
no_room-not_free arena records slot at apart (inr o) = by (is_blocked (player_body at) (solids_of arena)) (is_blocked (player_body at) (map_list body_of (solids_in records slot))) refl
  where
    by : (a b : Bool) → is_blocked (player_body at) (map_list body_of (solids_in records slot)) ≡ b → (not a && not b) ≡ false
    by true b f = refl
    by false true f = refl
    by false false f = absurd (true-false (sym o.overlap ∙ clear-live (player_body at) records slot f o.id o.solid o.live o.kind (apart o.id o.solid o.live)))

-- no record has the id of a free slot
apart-slot : (arena : MapView) (state : State) (slot : ℕ) → IsState arena state → IsLeastFree (ports_of state.clients) slot
    → (id : ℕ) (r : Rec) → record_at state.records id ≡ Some r → (r.id == slot) ≡ false
apart-slot arena state slot is least id r at =
    let gone = free-record state.clients state.records slot least.in_range is.live (port_of-none (client_at state.clients slot) (sym (port_at-client state.clients slot) ∙ least.free)) in
    ne_eqb r.id slot (λ same. none-some r (sym gone ∙ ap (record_at state.records) (sym same ∙ (is.valid.each id r at).own_id) ∙ at))

-- a join is put at the first spawn with room
pub join_first : (arena : MapView) (state : State) (port : ℕ) (to : JoinPoint) → AreClients state.clients → IsState arena state → join_answer arena state port ≡ Ok to → IsAtFirstRoom arena state to
join_first arena state port to are is e =
    let g = got arena state.records (slot_for (ports_of state.clients) port) to e in
    let passes : Vec3 → Bool = λ at. is_free state.records (player_body at) (solids_of arena) to.slot in
    let first = find-first passes arena.spawns to.at g.spawn in
    record {
      number = first.number;
      is_spawn = first.is;
      room = join_clear arena state port to are is e;
      no_room_before = All-weaker (λ at. passes at ≡ false) (HasNoRoom arena state.records) (λ at f. not_free-no_room arena state.records to.slot at f) (take first.number arena.spawns) first.before;
    }

-- ---- joins

-- all slots are live exactly where none is free
full-is : (ports : List (Option ℕ)) → is_full ports ≡ not (is_some (free_slot ports))
full-is ports = is_full-free ports ∙ ap not (list_any-position is_none ports)

-- the slot of a join, by whether its port is joined and which slot is free
abbrev slot_by : Bool → Option ℕ → Result ℕ JoinFault
slot_by joined o = if joined then Err fault.Already else ok_or o fault.Full

module _ (arena : MapView) (state : State) (port : ℕ) (are : AreClients state.clients) (is : IsState arena state) where
  abbrev ports : List (Option ℕ)
  ports = ports_of state.clients

  -- where a join finds no room at any spawn
  crowded : (slot : ℕ) → is_joined ports port ≡ false → free_slot ports ≡ Some slot → free_spawn (solids_of arena) state.records slot arena.spawns ≡ None → FindsNoRoom arena state (Ok Join) port
  crowded slot j f none = record {
    is_join = refl;
    not_joined = j;
    not_full = full-is ports ∙ ap (λ (o : Option ℕ). not (is_some o)) f;
    no_room = All-weaker (λ at. is_free state.records (player_body at) (solids_of arena) slot ≡ false) (HasNoRoom arena state.records)
        (λ at e. not_free-no_room arena state.records slot at e) arena.spawns (find-none _ arena.spawns none);
  }

  -- a join that is refused has the reason
  join-holds : (why : Refusal) → refusal_in (join_answer arena state port) ≡ Some why → RefusalHolds arena state (Ok Join) port why
  join-holds why e = by (is_joined ports port) (free_slot ports) refl refl e
    where
      spawn : (slot : ℕ) → is_joined ports port ≡ false → free_slot ports ≡ Some slot → (o : Option Vec3) → free_spawn (solids_of arena) state.records slot arena.spawns ≡ o
          → refusal_in (ok_or (option_map (join_point slot) o) refusal.Crowded) ≡ Some why → RefusalHolds arena state (Ok Join) port why
      spawn slot j f (Some at) g h = absurd (none-some why h)
      spawn slot j f None g h = subst (RefusalHolds arena state (Ok Join) port) (same_Some refusal.Crowded why h) (crowded slot j f g)

      by : (joined : Bool) (o : Option ℕ) → is_joined ports port ≡ joined → free_slot ports ≡ o → refusal_in (join_point_in arena state.records (slot_by joined o)) ≡ Some why
          → RefusalHolds arena state (Ok Join) port why
      by true o j f h = subst (RefusalHolds arena state (Ok Join) port) (same_Some refusal.Already why h) (record { is_join = refl; joined = j })
      by false None j f h =
          subst (RefusalHolds arena state (Ok Join) port) (same_Some refusal.Full why h) (record { is_join = refl; not_joined = j; full = full-is ports ∙ ap (λ (o : Option ℕ). not (is_some o)) f })
      by false (Some slot) j f h = spawn slot j f (free_spawn (solids_of arena) state.records slot arena.spawns) refl h

  -- and one with the reason is refused
  already-refusal_for : is_joined ports port ≡ true → refusal_for arena state (Ok Join) port ≡ Some refusal.Already
  already-refusal_for joined = ap (λ (b : Bool). refusal_in (join_point_in arena state.records (slot_by b (free_slot ports)))) joined

  full-refusal_for : is_joined ports port ≡ false → is_full ports ≡ true → refusal_for arena state (Ok Join) port ≡ Some refusal.Full
  full-refusal_for apart full =
      ap (λ (b : Bool). refusal_in (join_point_in arena state.records (slot_by b (free_slot ports)))) apart
      ∙ ap (λ (o : Option ℕ). refusal_in (join_point_in arena state.records (slot_by false o))) (none (free_slot ports) (sym (full-is ports) ∙ full))
    where
      none : (o : Option ℕ) → not (is_some o) ≡ true → o ≡ None
      none None h = refl
      none (Some slot) h = absurd (true-false (sym h))

  crowded-refusal_for : is_joined ports port ≡ false → is_full ports ≡ false → All (HasNoRoom arena state.records) arena.spawns → refusal_for arena state (Ok Join) port ≡ Some refusal.Crowded
  crowded-refusal_for apart not_full none =
      ap (λ (b : Bool). refusal_in (join_point_in arena state.records (slot_by b (free_slot ports)))) apart ∙ by (free_slot ports) refl (sym (full-is ports) ∙ not_full)
    where
      by : (o : Option ℕ) → free_slot ports ≡ o → not (is_some o) ≡ false → refusal_in (join_point_in arena state.records (slot_by false o)) ≡ Some refusal.Crowded
      by None f h = absurd (true-false h)
      by (Some slot) f h =
          let least = free_slot-least ports are.slots.count slot f in
          let passes : Vec3 → Bool = λ at. is_free state.records (player_body at) (solids_of arena) slot in
          let fail = All-weaker (HasNoRoom arena state.records) (λ at. passes at ≡ false)
          (λ at e. no_room-not_free arena state.records slot at (apart-slot arena state slot is least) e) arena.spawns none in
          ap (λ (o : Option Vec3). refusal_in (ok_or (option_map (join_point slot) o) refusal.Crowded)) (none-find passes arena.spawns fail)

-- ---- leaves and moves

-- a move packet by what decides it
abbrev move_by_tests : LiveSlot → Bool → Bool → Bool → Result LiveSlot Refusal
move_by_tests l leaves none many = if leaves then Err refusal.Leaving else if none then Err refusal.Old else if many then Err refusal.Many else Ok l

-- a move packet is a leave or a move packet
leave-or : (packet : Packet) → is_move packet ≡ true → is_leave_or_move (Ok packet) ≡ true
leave-or Join kind = kind
leave-or Leave kind = refl
leave-or (Move m) kind = refl
leave-or (Moves s) kind = refl

-- how many commands are new
abbrev new_in : LiveSlot → List MovePacket → ℕ
new_in l steps = length (new_among l.client.last steps)

false-some : (n : ℕ) → 1 ≤ n → (n == 0) ≡ false
false-some n h = grind (arith, nat_tests)

-- no command is new exactly where no number is above the last one
none-above : (last : ℕ) (steps : List MovePacket) → (length (new_among last steps) == 0) ≡ true → All (λ m. m.seq ≤ last) steps
none-above last [] e = All-nil (λ m. m.seq ≤ last)
none-above last (m ∷ steps) e = by (nat_lt last m.seq) refl e (none-above last steps)
  where
    by : (b : Bool) → nat_lt last m.seq ≡ b → (length (cond b (m ∷ new_among last steps) (new_among last steps)) == 0) ≡ true
        → ((length (new_among last steps) == 0) ≡ true → All (λ p. p.seq ≤ last) steps) → All (λ p. p.seq ≤ last) (m ∷ steps)
    by true f h more = let none = eqb-true (length (m ∷ new_among last steps)) 0 h in absurd (omega (arith, none))
    by false f h more = All-cons (λ p. p.seq ≤ last) m steps (ltb-false last m.seq f) (more h)

above-none : (last : ℕ) (steps : List MovePacket) → All (λ m. m.seq ≤ last) steps → (length (new_among last steps) == 0) ≡ true
above-none last [] all = refl
above-none last (m ∷ steps) all =
    by (nat_lt last m.seq) refl (All-head (λ p. p.seq ≤ last) m steps all) (above-none last steps (All-tail (λ p. p.seq ≤ last) m steps all))
  where
    by : (b : Bool) → nat_lt last m.seq ≡ b → m.seq ≤ last → (length (new_among last steps) == 0) ≡ true → (length (cond b (m ∷ new_among last steps) (new_among last steps)) == 0) ≡ true
    by true f low rest = let h = ltb-true last m.seq f in absurd (omega (arith, h, low))
    by false f low rest = rest

module _ (arena : MapView) (state : State) (port : ℕ) (are : AreClients state.clients) where
  -- a client that is found is that of the port
  client-of : (live : LiveSlot) → live_with state.clients port ≡ Some live → IsClientOf state.clients port live.slot live.client
  client-of live f = record { in_slot = live_at-found state.clients (slot_of (ports_of state.clients) port) live f; own_port = live_with-own state.clients port live f }

  -- and that of the port is found
  client-found : (slot : ℕ) (c : Client) → IsClientOf state.clients port slot c → live_with state.clients port ≡ Some (live_slot slot c)
  client-found slot c of =
      let at = port_at-client state.clients slot ∙ ap port_of of.in_slot ∙ ap Some of.own_port in
      ap (live_at state.clients) (found-only (ports_of state.clients) are.slots slot port at) ∙ ap (option_map (live_slot slot)) of.in_slot

  -- none is found exactly where the port isn't joined
  none-joined : live_with state.clients port ≡ None → is_joined (ports_of state.clients) port ≡ false
  none-joined e = by (slot_of (ports_of state.clients) port) refl e
    where
      by : (o : Option ℕ) → slot_of (ports_of state.clients) port ≡ o → live_at state.clients o ≡ None → is_joined (ports_of state.clients) port ≡ false
      by None f h = list_any-position (has_port port) (ports_of state.clients) ∙ ap is_some f
      by (Some slot) f h =
          let own = sym (port_at-client state.clients slot) ∙ (slot_of-joined (ports_of state.clients) slot port f).1 in
          absurd (none-some port (sym (none (client_at state.clients slot) h) ∙ own))
        where
          none : (c : Option Client) → option_map (live_slot slot) c ≡ None → port_of c ≡ None
          none None g = refl
          none (Some c) g = absurd (none-some (live_slot slot c) (sym g))

  joined-none : is_joined (ports_of state.clients) port ≡ false → live_with state.clients port ≡ None
  joined-none e = ap (live_at state.clients) (none (slot_of (ports_of state.clients) port) (sym (list_any-position (has_port port) (ports_of state.clients)) ∙ e))
    where
      none : (o : Option ℕ) → is_some o ≡ false → o ≡ None
      none None h = refl
      none (Some slot) h = absurd (true-false h)

  -- a leave that is refused has the reason
  leave-holds : (why : Refusal) → refusal_in (leave_answer state.clients port) ≡ Some why → RefusalHolds arena state (Ok Leave) port why
  leave-holds why e = by (live_with state.clients port) refl e
    where
      at : (l : LiveSlot) → live_with state.clients port ≡ Some l → (leaves : Bool) → l.client.leaves ≡ leaves
          → refusal_in (if leaves then Err refusal.Leaving else Ok (live_slot_leaving l)) ≡ Some why → RefusalHolds arena state (Ok Leave) port why
      at l f true g h =
          subst (RefusalHolds arena state (Ok Leave) port) (same_Some refusal.Leaving why h) (record { slot = l.slot; sender = l.client; kind = refl; is_client = client-of l f; leaves = g })
      at l f false g h = absurd (none-some why h)

      by : (o : Option LiveSlot) → live_with state.clients port ≡ o → refusal_in (leave_by o) ≡ Some why → RefusalHolds arena state (Ok Leave) port why
      by None f h = subst (RefusalHolds arena state (Ok Leave) port) (same_Some refusal.NotJoined why h) (record { kind = refl; not_joined = none-joined f })
      by (Some l) f h = at l f l.client.leaves refl h

  -- a move packet that is refused has the reason
  move-holds : (packet : Packet) (why : Refusal) → is_move packet ≡ true → refusal_in (move_answer state.clients port (commands_of packet)) ≡ Some why
      → RefusalHolds arena state (Ok packet) port why
  move-holds packet why kind e = by (live_with state.clients port) refl e
    where
      either : is_leave_or_move (Ok packet) ≡ true
      either = leave-or packet kind

      stays : (l : LiveSlot) → live_with state.clients port ≡ Some l → l.client.leaves ≡ false → IsMoveOf state.clients (Ok packet) port packet l.client
      stays l f g = record { slot = l.slot; is_read = refl; kind = kind; is_client = client-of l f; stays = g }

      at : (l : LiveSlot) → live_with state.clients port ≡ Some l → (leaves none many : Bool) → l.client.leaves ≡ leaves → (new_in l (commands_of packet) == 0) ≡ none
          → nat_lt 8 (l.client.moves + new_in l (commands_of packet)) ≡ many → refusal_in (move_by_tests l leaves none many) ≡ Some why → RefusalHolds arena state (Ok packet) port why
      at l f true none many a b c h =
          subst (RefusalHolds arena state (Ok packet) port) (same_Some refusal.Leaving why h) (record { slot = l.slot; sender = l.client; kind = either; is_client = client-of l f; leaves = a })
      at l f false true many a b c h =
          subst (RefusalHolds arena state (Ok packet) port) (same_Some refusal.Old why h)
          (record { packet = packet; sender = l.client; move = stays l f a; not_above = none-above l.client.last (commands_of packet) b })
      at l f false false true a b c h =
          subst (RefusalHolds arena state (Ok packet) port) (same_Some refusal.Many why h)
          (record {
            packet = packet;
            sender = l.client;
            move = stays l f a;
            above = some_of (new_in l (commands_of packet)) b;
            many = ltb-true 8 (l.client.moves + new_in l (commands_of packet)) c;
          })
      at l f false false false a b c h = absurd (none-some why h)

      by : (o : Option LiveSlot) → live_with state.clients port ≡ o → refusal_in (move_by o (commands_of packet)) ≡ Some why → RefusalHolds arena state (Ok packet) port why
      by None f h = subst (RefusalHolds arena state (Ok packet) port) (same_Some refusal.NotJoined why h) (record { kind = either; not_joined = none-joined f })
      by (Some l) f h = at l f l.client.leaves (new_in l (commands_of packet) == 0) (nat_lt 8 (l.client.moves + new_in l (commands_of packet))) refl refl refl h

  -- and one with the reason is refused
  nobody-refusal_for : (read : Result Packet PacketFault) → is_leave_or_move read ≡ true → live_with state.clients port ≡ None → refusal_for arena state read port ≡ Some refusal.NotJoined
  nobody-refusal_for (Err f) kind none = absurd (true-false (sym kind))
  nobody-refusal_for (Ok Join) kind none = absurd (true-false (sym kind))
  nobody-refusal_for (Ok Leave) kind none = ap (λ (o : Option LiveSlot). refusal_in (leave_by o)) none
  nobody-refusal_for (Ok (Move m)) kind none = ap (λ (o : Option LiveSlot). refusal_in (move_by o (commands_of (Move m)))) none
  nobody-refusal_for (Ok (Moves s)) kind none = ap (λ (o : Option LiveSlot). refusal_in (move_by o (commands_of (Moves s)))) none

  leaver-moves : (steps : List MovePacket) (l : LiveSlot) → live_with state.clients port ≡ Some l → l.client.leaves ≡ true
      → refusal_in (move_answer state.clients port steps) ≡ Some refusal.Leaving
  leaver-moves steps l found leaves =
      ap (λ (o : Option LiveSlot). refusal_in (move_by o steps)) found
      ∙ ap (λ (b : Bool). refusal_in (move_by_tests l b (new_in l steps == 0) (nat_lt 8 (l.client.moves + new_in l steps)))) leaves

  leaver-refusal_for : (read : Result Packet PacketFault) (l : LiveSlot) → is_leave_or_move read ≡ true → live_with state.clients port ≡ Some l → l.client.leaves ≡ true
      → refusal_for arena state read port ≡ Some refusal.Leaving
  leaver-refusal_for (Err f) l kind found leaves = absurd (true-false (sym kind))
  leaver-refusal_for (Ok Join) l kind found leaves = absurd (true-false (sym kind))
  leaver-refusal_for (Ok Leave) l kind found leaves =
      ap (λ (o : Option LiveSlot). refusal_in (leave_by o)) found ∙ ap (λ (b : Bool). refusal_in {X = LiveSlot} (if b then Err refusal.Leaving else Ok (live_slot_leaving l))) leaves
  leaver-refusal_for (Ok (Move m)) l kind found leaves = leaver-moves (commands_of (Move m)) l found leaves
  leaver-refusal_for (Ok (Moves s)) l kind found leaves = leaver-moves (commands_of (Moves s)) l found leaves

  -- the cause of a move packet is that of its answer
  move-refusal_for : (packet : Packet) (l : LiveSlot) (none many : Bool) → is_move packet ≡ true → live_with state.clients port ≡ Some l → l.client.leaves ≡ false
      → (new_in l (commands_of packet) == 0) ≡ none → nat_lt 8 (l.client.moves + new_in l (commands_of packet)) ≡ many
      → refusal_for arena state (Ok packet) port ≡ refusal_in (move_by_tests l false none many)
  move-refusal_for packet l none many kind found stays a b =
      refusal_for-of packet kind
      ∙ ap (λ (o : Option LiveSlot). refusal_in (move_by o (commands_of packet))) found
      ∙ ap (λ (t : Bool). refusal_in (move_by_tests l t (new_in l (commands_of packet) == 0) (nat_lt 8 (l.client.moves + new_in l (commands_of packet))))) stays
      ∙ ap (λ (t : Bool). refusal_in (move_by_tests l false t (nat_lt 8 (l.client.moves + new_in l (commands_of packet))))) a
      ∙ ap (λ (t : Bool). refusal_in (move_by_tests l false none t)) b
    where
      refusal_for-of : (p : Packet) → is_move p ≡ true → refusal_for arena state (Ok p) port ≡ refusal_in (move_answer state.clients port (commands_of p))
      refusal_for-of Join kind = absurd (true-false (sym kind))
      refusal_for-of Leave kind = absurd (true-false (sym kind))
      refusal_for-of (Move m) kind = refl
      refusal_for-of (Moves s) kind = refl

-- ---- reasons

module _ (arena : MapView) (state : State) (port : ℕ) (are : AreClients state.clients) (is : IsState arena state) where
  -- a packet that is refused has the reason
  refusal_for-holds : (read : Result Packet PacketFault) (why : Refusal) → refusal_for arena state read port ≡ Some why → RefusalHolds arena state read port why
  refusal_for-holds (Err f) why e = subst (RefusalHolds arena state (Err f) port) (same_Some (refusal.Packet f) why e) refl
  refusal_for-holds (Ok Join) why e = join-holds arena state port are is why e
  refusal_for-holds (Ok Leave) why e = leave-holds arena state port are why e
  refusal_for-holds (Ok (Move m)) why e = move-holds arena state port are (Move m) why refl e
  refusal_for-holds (Ok (Moves s)) why e = move-holds arena state port are (Moves s) why refl e

  -- and one with the reason is refused
  holds-refusal_for : (read : Result Packet PacketFault) (why : Refusal) → RefusalHolds arena state read port why → refusal_for arena state read port ≡ Some why
  holds-refusal_for read (refusal.Packet f) h = ap (λ (p : Result Packet PacketFault). refusal_for arena state p port) h
  holds-refusal_for read refusal.Already h = ap (λ (p : Result Packet PacketFault). refusal_for arena state p port) h.is_join ∙ already-refusal_for arena state port are is h.joined
  holds-refusal_for read refusal.Full h = ap (λ (p : Result Packet PacketFault). refusal_for arena state p port) h.is_join ∙ full-refusal_for arena state port are is h.not_joined h.full
  holds-refusal_for read refusal.Crowded h =
      ap (λ (p : Result Packet PacketFault). refusal_for arena state p port) h.is_join ∙ crowded-refusal_for arena state port are is h.not_joined h.not_full h.no_room
  holds-refusal_for read refusal.NotJoined h = nobody-refusal_for arena state port are read h.kind (joined-none arena state port are h.not_joined)
  holds-refusal_for read refusal.Leaving h =
      leaver-refusal_for arena state port are read (live_slot h.slot h.sender) h.kind (client-found arena state port are h.slot h.sender h.is_client) h.leaves
  holds-refusal_for read refusal.Old h =
      let l = live_slot h.move.slot h.sender in
      ap (λ (p : Result Packet PacketFault). refusal_for arena state p port) h.move.is_read
      ∙ move-refusal_for arena state port are h.packet l true (nat_lt 8 (h.sender.moves + new_in l (commands_of h.packet))) h.move.kind
      (client-found arena state port are h.move.slot h.sender h.move.is_client) h.move.stays (above-none h.sender.last (commands_of h.packet) h.not_above) refl
  holds-refusal_for read refusal.Many h =
      let l = live_slot h.move.slot h.sender in
      ap (λ (p : Result Packet PacketFault). refusal_for arena state p port) h.move.is_read
      ∙ move-refusal_for arena state port are h.packet l false true h.move.kind (client-found arena state port are h.move.slot h.sender h.move.is_client) h.move.stays
      (false-some (new_in l (commands_of h.packet)) h.above) (lt-ltb 8 (h.sender.moves + new_in l (commands_of h.packet)) h.many)

-- a packet is refused exactly where the refusal holds
pub refused_where_it_holds : (arena : MapView) (frame : ℕ) (r : Receiving) (place : ℕ) (a : Arrival) (why : Refusal) → AreClients r.state.clients → IsState arena r.state
    → (after_arrival arena frame r place a ≡ after_refusal r place why) ↔ RefusalHolds arena r.state (reading a.bytes) a.port why
refused_where_it_holds arena frame r place a why are is =
    let refused = refused-is arena frame (reading a.bytes) r place a.port why in
    (λ e. refusal_for-holds arena r.state a.port are is (reading a.bytes) why (refused.0 e), λ h. refused.1 (holds-refusal_for arena r.state a.port are is (reading a.bytes) why h))
