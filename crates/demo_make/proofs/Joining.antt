-- Each join of a generated recording gets the next slot and the spawn with its number.
use Rattle.std.proofs.Common.{◌≡◌, ℕ, zero, suc, ◌+◌, ◌≤◌, ◌<◌, Bool, true, false, eqb, ltb, not, ◌&&◌, ◌||◌, length, map, Option, Some, None, Ok, refl, sym, ap, ◌∙◌, subst, inl, inr, arith, get_or-set_same, length-set}
use Rattle.std.specs.Option.{is_none}
use Rattle.std.specs.List.{range_with_len, list_all, find, position_or_len, slice_set}
use Rattle.std.proofs.lemmas.Bool.{cases_lt}
use Rattle.std.proofs.lemmas.Bool.Decides.{nat_tests}
use Rattle.std.proofs.lemmas.List.{length-map}
use Rattle.std.proofs.lemmas.List.Folds.{list_any_none, list_any_at}
use Rattle.std.proofs.lemmas.List.Elements.{All-from_get_or}
use Rattle.std.proofs.lemmas.List.Sums.{position_or_len_is}
use Rattle.arena_geo.specs.declared.vec3.Vec3.{Vec3}
use Rattle.arena_geo.specs.Bounds.{Bounds}
use Rattle.arena_geo.specs.Boxes.{overlaps, is_blocked}
use Rattle.entity_recs.specs.declared.limits.TheConstants.{IDS}
use Rattle.entity_recs.specs.declared.rec.Rec.{Rec}
use Rattle.entity_recs.specs.Bodies.{body_of, player_body}
use Rattle.entity_recs.specs.Kinds.{is_solid}
use Rattle.entity_slots.specs.Ports.{has_port, port_at, is_joined}
use Rattle.entity_slots.specs.FreeSlots.{free_slot, slot_for}
use Rattle.arena_map.specs.Maps.{solids_of}
use Rattle.world_tree.specs.Live.{record_at}
use Rattle.world_tree.specs.Queries.{is_free, solids_in}
use Rattle.world_tree.specs.Walks.{is_in_the_way}
use Rattle.world_tree.proofs.Found.{in_the_way-is}
use Rattle.client_ports.specs.Clients.{client, client_at, port_of, ports_of, new_client}
use Rattle.client_ports.specs.States.{State, newcomer, with_newcomer}
use Rattle.client_ports.specs.FirstRefusals.{join_point, free_spawn, join_answer}
use Rattle.client_ports.proofs.Slots.{port_at-client, read-set}
use Rattle.demo_make.specs.GeneratedMap.{generated_map, spawn_at}
use Rattle.demo_make.specs.Accepting.{IsClearOfSpawns}
use Rattle.demo_make.proofs.MapKept.{pass-at}

-- so many players are joined, each in the slot with its number and at the spawn with its number
pub record AreJoined (k : ℕ) (state : State) : Type 0 where
  pub slots : length state.clients ≡ 64
  pub joined : (slot : ℕ) → slot < k → client_at state.clients slot ≡ Some (client (slot + 1) 0 false 0)
  pub free : (slot : ℕ) → k ≤ slot → client_at state.clients slot ≡ None
  pub places : length state.records ≡ IDS
  pub players : (slot : ℕ) → slot < k → record_at state.records slot ≡ Some (newcomer slot (spawn_at slot))
  pub others : (id : ℕ) → k ≤ id → (r : Rec) → record_at state.records id ≡ Some r → is_solid r.kind ≡ true → IsClearOfSpawns r

-- ---- the slot

port-joined : (k : ℕ) (state : State) → AreJoined k state → (slot : ℕ) → slot < k → port_at (ports_of state.clients) slot ≡ Some (slot + 1)
port-joined k state are slot below = port_at-client state.clients slot ∙ ap port_of (are.joined slot below)

port-free : (k : ℕ) (state : State) → AreJoined k state → (slot : ℕ) → k ≤ slot → port_at (ports_of state.clients) slot ≡ None
port-free k state are slot above = port_at-client state.clients slot ∙ ap port_of (are.free slot above)

ports-count : (k : ℕ) (state : State) → AreJoined k state → length (ports_of state.clients) ≡ 64
ports-count k state are = length-map state.clients port_of ∙ are.slots

not_joined : (k : ℕ) (state : State) → AreJoined k state → is_joined (ports_of state.clients) (k + 1) ≡ false
not_joined k state are =
    list_any_none (has_port (k + 1)) (ports_of state.clients)
    (All-from_get_or (λ place. has_port (k + 1) place ≡ false) (ports_of state.clients) None
    (λ i _. elim (cases_lt i k) [ inl below ↦ taken i below | inr above ↦ ap (has_port (k + 1)) (port-free k state are i above) ]))
  where
    taken : (i : ℕ) → i < k → has_port (k + 1) (port_at (ports_of state.clients) i) ≡ false
    taken i below =
        let apart : eqb (i + 1) (k + 1) ≡ false = grind (arith, nat_tests) in
        ap (has_port (k + 1)) (port-joined k state are i below) ∙ apart

slot-next : (k : ℕ) (state : State) → AreJoined k state → k < 64 → free_slot (ports_of state.clients) ≡ Some k
slot-next k state are below =
    let ports = ports_of state.clients in
    let count = ports-count k state are in
    let first : position_or_len is_none ports ≡ k =
    position_or_len_is is_none ports k None (omega (arith, count))
    (λ i less. ap is_none (port-joined k state are i less))
    (λ _. ap is_none (port-free k state are k (omega arith))) in
    let within : ltb k (length ports) ≡ true = grind (arith, nat_tests) in
    rw first (rw within refl)

place-next : (k : ℕ) (state : State) → AreJoined k state → k < 64 → slot_for (ports_of state.clients) (k + 1) ≡ Ok k
place-next k state are below = rw (not_joined k state are) (rw (slot-next k state are below) refl)

-- ---- the spawn

apart-test : ℕ → ℕ → Bool
apart-test i j = eqb i j || not (overlaps (player_body (spawn_at i)) (player_body (spawn_at j)))

all-apart : list_all (λ i. list_all (apart-test i) (range_with_len 0 64)) (range_with_len 0 64) ≡ true
unfolding apart-test
all-apart = refl

spawns-apart : (i j : ℕ) → i < 64 → j < 64 → eqb i j ≡ false → overlaps (player_body (spawn_at i)) (player_body (spawn_at j)) ≡ false
unfolding apart-test
spawns-apart i j low high differ =
    let row = pass-at (λ k. list_all (apart-test k) (range_with_len 0 64)) 64 i all-apart low in
    let passed = pass-at (apart-test i) 64 j row high in
    by (eqb i j) (overlaps (player_body (spawn_at i)) (player_body (spawn_at j))) differ passed
  where
    by : (same over : Bool) → same ≡ false → (same || not over) ≡ true → over ≡ false
    by false false e h = refl
    by false true e h = cc
    by true over e h = cc

abbrev own-body : ℕ → Bounds
own-body i = player_body (spawn_at i)

spawn-open : (i : ℕ) → i < 64 → is_blocked (own-body i) (solids_of generated_map) ≡ false
spawn-open i below = by (is_blocked (own-body i) (solids_of generated_map)) (pass-at (λ k. not (is_blocked (own-body k) (solids_of generated_map))) 64 i refl below)
  where
    by : (blocked : Bool) → not blocked ≡ true → blocked ≡ false
    by false h = refl
    by true h = cc

own-overlaps : (i : ℕ) → i < 64 → overlaps (own-body i) (own-body i) ≡ true
own-overlaps i below = pass-at (λ k. overlaps (own-body k) (own-body k)) 64 i refl below

-- what is in the way, record by record
in_way-player : (i except k : ℕ) → k < except → except < 64 → i < 64
    → is_in_the_way (own-body i) except (Some (newcomer k (spawn_at k))) ≡ overlaps (own-body i) (own-body k)
in_way-player i except k below few within = let e : eqb k except ≡ false = grind (arith, nat_tests) in rw e refl

taken-spawn : (k : ℕ) (state : State) → AreJoined k state → k < 64 → (i : ℕ) → i < k
    → is_free state.records (own-body i) (solids_of generated_map) k ≡ false
taken-spawn k state are few i below =
    let at = ap (is_in_the_way (own-body i) k) (are.players i below) ∙ in_way-player i k i below few (omega arith) ∙ own-overlaps i (omega arith) in
    let some = list_any_at (is_in_the_way (own-body i) k) state.records i None (omega (arith, are.places)) at in
    let blocked = sym (in_the_way-is (own-body i) k state.records) ∙ some in
    by (is_blocked (own-body i) (solids_of generated_map)) (is_blocked (own-body i) (map body_of (solids_in state.records k))) blocked
  where
    by : (a b : Bool) → b ≡ true → (not a && not b) ≡ false
    by false true e = refl
    by true true e = refl
    by a false e = cc

open-spawn : (k : ℕ) (state : State) → AreJoined k state → k < 64 → is_free state.records (own-body k) (solids_of generated_map) k ≡ true
open-spawn k state are few =
    let none = list_any_none (is_in_the_way (own-body k) k) state.records
    (All-from_get_or (λ place. is_in_the_way (own-body k) k place ≡ false) state.records None
    (λ i _. elim (cases_lt i k) [ inl below ↦ player i below | inr above ↦ other i above ])) in
    rw (spawn-open k few) (rw (sym (in_the_way-is (own-body k) k state.records) ∙ none) refl)
  where
    player : (i : ℕ) → i < k → is_in_the_way (own-body k) k (record_at state.records i) ≡ false
    player i below =
        let differ : eqb k i ≡ false = grind (arith, nat_tests) in
        ap (is_in_the_way (own-body k) k) (are.players i below) ∙ in_way-player k k i below few few ∙ spawns-apart k i few (omega arith) differ

    other : (i : ℕ) → k ≤ i → is_in_the_way (own-body k) k (record_at state.records i) ≡ false
    other i above = at (record_at state.records i) refl
      where
        solid : (r : Rec) (kind own over : Bool) → (kind ≡ true → over ≡ false) → (kind && not own && over) ≡ false
        solid r false own over h = refl
        solid r true true over h = refl
        solid r true false over h = h refl

        at : (place : Option Rec) → record_at state.records i ≡ place → is_in_the_way (own-body k) k place ≡ false
        at None e = refl
        at (Some r) e = solid r (is_solid r.kind) (eqb r.id k) (overlaps (own-body k) (body_of r)) (λ h. are.others i above r e h k few)

find-at : (p : Vec3 → Bool) (a n k : ℕ) → k < n → ((i : ℕ) → i < k → p (spawn_at (a + i)) ≡ false) → p (spawn_at (a + k)) ≡ true
    → find p (map spawn_at (range_with_len a n)) ≡ Some (spawn_at (a + k))
find-at p a zero k below before here = absurd (omega arith)
find-at p a (suc n) zero below before here =
    let e : a + 0 ≡ a = omega arith in rw (subst (λ i. p (spawn_at i) ≡ true) e here) (ap (λ i. Some (spawn_at i)) (sym e))
find-at p a (suc n) (suc k) below before here =
    let e : a + 0 ≡ a = omega arith in
    let step : (i : ℕ) → a + suc i ≡ a + 1 + i = λ i. omega arith in
    rw (subst (λ i. p (spawn_at i) ≡ false) e (before 0 (omega arith)))
    (find-at p (a + 1) n k (omega arith) (λ i less. subst (λ j. p (spawn_at j) ≡ false) (step i) (before (suc i) (omega arith)))
    (subst (λ j. p (spawn_at j) ≡ true) (step k) here)
    ∙ ap (λ j. Some (spawn_at j)) (sym (step k)))

spawn-next : (k : ℕ) (state : State) → AreJoined k state → k < 64
    → free_spawn (solids_of generated_map) state.records k generated_map.spawns ≡ Some (spawn_at k)
spawn-next k state are few =
    let test : Vec3 → Bool = λ at. is_free state.records (player_body at) (solids_of generated_map) k in
    let none : (i : ℕ) → 0 + i ≡ i = λ i. omega arith in
    find-at test 0 64 k few
    (λ i below. subst (λ j. test (spawn_at j) ≡ false) (sym (none i)) (taken-spawn k state are few i below))
    (subst (λ j. test (spawn_at j) ≡ true) (sym (none k)) (open-spawn k state are few))
    ∙ ap (λ j. Some (spawn_at j)) (none k)

pub join-next : (k : ℕ) (state : State) → AreJoined k state → k < 64 → join_answer generated_map state (k + 1) ≡ Ok (join_point k (spawn_at k))
join-next k state are few = rw (place-next k state are few) (rw (spawn-next k state are few) refl)

-- ---- the state after it

pub joined-next : (k : ℕ) (state : State) → AreJoined k state → k < 64 → AreJoined (k + 1) (with_newcomer state (k + 1) k (spawn_at k))
joined-next k state are few = record {
  slots = length-set state.clients k (Some (new_client (k + 1))) ∙ are.slots;
  joined = λ slot below. elim (read-set state.clients k slot (Some (new_client (k + 1)))) [
    | inl at ↦ at.2 ∙ ap (λ s. Some (new_client (s + 1))) (sym at.0)
    | inr kept ↦ elim (cases_lt slot k) [ inl less ↦ kept ∙ are.joined slot less | inr more ↦ own-client slot below more ]
  ];
  free = λ slot above. elim (read-set state.clients k slot (Some (new_client (k + 1)))) [
    | inl at ↦ absurd (omega (arith, at.0))
    | inr kept ↦ kept ∙ are.free slot (omega arith)
  ];
  places = length-set state.records k (Some (newcomer k (spawn_at k))) ∙ are.places;
  players = λ slot below. elim (read-set state.records k slot (Some (newcomer k (spawn_at k)))) [
    | inl at ↦ at.2 ∙ ap (λ s. Some (newcomer s (spawn_at s))) (sym at.0)
    | inr kept ↦ elim (cases_lt slot k) [ inl less ↦ kept ∙ are.players slot less | inr more ↦ own-record slot below more ]
  ];
  others = λ id above r e solid. elim (read-set state.records k id (Some (newcomer k (spawn_at k)))) [
    | inl at ↦ absurd (omega (arith, at.0))
    | inr kept ↦ are.others id (omega arith) r (sym kept ∙ e) solid
  ];
}
  where
    own-client : (slot : ℕ) → slot < k + 1 → k ≤ slot → client_at (slice_set state.clients k (Some (new_client (k + 1)))) slot ≡ Some (client (slot + 1) 0 false 0)
    own-client slot below above =
        let same : slot ≡ k = omega arith in
        rw same (get_or-set_same state.clients k (Some (new_client (k + 1))) None (omega (arith, are.slots)))

    own-record : (slot : ℕ) → slot < k + 1 → k ≤ slot → record_at (slice_set state.records k (Some (newcomer k (spawn_at k)))) slot ≡ Some (newcomer slot (spawn_at slot))
    own-record slot below above =
        let same : slot ≡ k = omega arith in
        rw same (get_or-set_same state.records k (Some (newcomer k (spawn_at k))) None (omega (arith, are.places)))
