-- Each join of the first frame gets the next slot and a spawn, as long as places are left.
use Rattle.std.proofs.Common.{◌≡◌, ℕ, zero, suc, ◌+◌, ◌≤◌, ◌<◌, Bool, true, false, eqb, ltb, not, ◌&&◌, ◌||◌, if◌then◌else◌, List, [], ◌∷◌, ◌++◌, length, get_or, Option, Some, None, Ok, refl, sym, ap, ◌∙◌, inl, inr, arith, get_or-set_same, length-set, length-append}
use Rattle.std.specs.Option.{is_none}
use Rattle.std.specs.List.{find, position_or_len, slice_set}
use Rattle.std.proofs.lemmas.Bool.{cases_lt}
use Rattle.std.proofs.lemmas.Bool.Decides.{nat_tests}
use Rattle.std.proofs.lemmas.List.{length-map}
use Rattle.std.proofs.lemmas.List.Folds.{list_any_none}
use Rattle.std.proofs.lemmas.List.Elements.{All-from_get_or}
use Rattle.std.proofs.lemmas.List.Sums.{position_or_len_is}
use Rattle.arena_geo.specs.declared.vec3.Vec3.{Vec3}
use Rattle.arena_geo.specs.Vectors.{zero_vector}
use Rattle.arena_geo.specs.Boxes.{overlaps}
use Rattle.entity_recs.specs.declared.limits.TheConstants.{IDS}
use Rattle.entity_recs.specs.declared.rec.Rec.{Rec}
use Rattle.entity_recs.specs.Bodies.{body_of, player_body}
use Rattle.entity_recs.specs.Kinds.{is_solid}
use Rattle.entity_slots.specs.Ports.{has_port, port_at, is_joined}
use Rattle.entity_slots.specs.FreeSlots.{free_slot, slot_for}
use Rattle.arena_map.specs.Maps.{MapView, solids_of}
use Rattle.world_tree.specs.Live.{record_at}
use Rattle.world_tree.specs.Queries.{is_free}
use Rattle.world_tree.specs.Walks.{is_in_the_way}
use Rattle.world_tree.proofs.Found.{in_the_way-is}
use Rattle.client_ports.specs.Clients.{client, client_at, port_of, ports_of, new_client}
use Rattle.client_ports.specs.States.{State, newcomer, with_newcomer}
use Rattle.client_ports.specs.FirstRefusals.{join_point, free_spawn, join_answer}
use Rattle.client_ports.proofs.Slots.{port_at-client, read-set}
use Rattle.demo_walk.specs.Places.{is_place, places_of}
use Rattle.demo_walk.proofs.PlaceParts.{spawn_of, body_at, place-at}
use Rattle.demo_walk.proofs.Sites.{taken, places-taken, taken-more}

-- ---- finding

-- the first that passes
pub record IsFirst {X : Type 0} (p : X → Bool) (xs : List X) (d x : X) : Type 0 where
  pub at : ℕ
  pub within : at < length xs
  pub is : get_or xs at d ≡ x
  pub before : (j : ℕ) → j < at → p (get_or xs j d) ≡ false

first-later : {X : Type 0} (p : X → Bool) (y : X) (xs : List X) (d x : X) → p y ≡ false → IsFirst p xs d x → IsFirst p (y ∷ xs) d x
first-later p y xs d x own first =
    record { at = suc first.at; within = omega (arith, first.within); is = first.is; before = earlier }
  where
    earlier : (j : ℕ) → j < suc first.at → p (get_or (y ∷ xs) j d) ≡ false
    earlier zero less = own
    earlier (suc j) less = first.before j (omega (arith, less))

pub first-of : {X : Type 0} (p : X → Bool) (xs : List X) (d x : X) → find p xs ≡ Some x → IsFirst p xs d x
first-of p [] d x e = absurd (none_some e)
  where
    none_some : {X : Type 0} {x : X} → None ≡ Some x → ⊥
    none_some e = cc
first-of {X} p (y ∷ xs) d x e = by (p y) refl e (λ h. first-of p xs d x h)
  where
    same : (a b : X) → Some a ≡ Some b → a ≡ b
    same a b h = cc

    by : (passes : Bool) → p y ≡ passes → (if passes then Some y else find p xs) ≡ Some x → (find p xs ≡ Some x → IsFirst p xs d x)
        → IsFirst p (y ∷ xs) d x
    by true own h rest = record { at = 0; within = omega arith; is = same y x h; before = λ j less. absurd (omega arith) }
    by false own h rest = first-later p y xs d x own (rest h)

none-of : {X : Type 0} (p : X → Bool) (xs : List X) (d : X) → find p xs ≡ None → (j : ℕ) → j < length xs → p (get_or xs j d) ≡ false
none-of p [] d e j less = absurd (omega arith)
none-of {X} p (y ∷ xs) d e j less = by (p y) refl e (λ h k few. none-of p xs d h k few) j less
  where
    by : (passes : Bool) → p y ≡ passes → (if passes then Some y else find p xs) ≡ None
        → (find p xs ≡ None → (k : ℕ) → k < length xs → p (get_or xs k d) ≡ false) → (j : ℕ) → j < suc (length xs)
        → p (get_or (y ∷ xs) j d) ≡ false
    by true own h rest j less = cc
    by false own h rest zero less = own
    by false own h rest (suc j) less = rest h j (omega (arith, less))

-- ---- who has joined

-- so many players are joined as there are sites, each in the slot with its number and at the spawn of its site; no player
-- and no lift is at a place that isn't taken
pub record AreJoined (m : MapView) (sites : List ℕ) (state : State) : Type 0 where
  pub slots : length state.clients ≡ 64
  pub joined : (slot : ℕ) → slot < length sites → client_at state.clients slot ≡ Some (client (slot + 1) 0 false 0)
  pub free : (slot : ℕ) → length sites ≤ slot → client_at state.clients slot ≡ None
  pub records : length state.records ≡ IDS
  pub players : (slot : ℕ) → slot < length sites → record_at state.records slot ≡ Some (newcomer slot (spawn_of m (get_or sites slot 0)))
  pub apart : (q : ℕ) → is_place m q ≡ true → taken sites q ≡ false → (slot : ℕ) → slot < length sites
      → overlaps (body_at m q) (body_at m (get_or sites slot 0)) ≡ false
  pub others : (id : ℕ) → length sites ≤ id → (r : Rec) → record_at state.records id ≡ Some r → is_solid r.kind ≡ true
      → (q : ℕ) → is_place m q ≡ true → overlaps (body_at m q) (body_of r) ≡ false

module _ (m : MapView) (sites : List ℕ) (state : State) (are : AreJoined m sites state) where
  k : ℕ
  k = length sites

  port-joined : (slot : ℕ) → slot < length sites → port_at (ports_of state.clients) slot ≡ Some (slot + 1)
  port-joined slot below = port_at-client state.clients slot ∙ ap port_of (are.joined slot below)

  port-free : (slot : ℕ) → length sites ≤ slot → port_at (ports_of state.clients) slot ≡ None
  port-free slot above = port_at-client state.clients slot ∙ ap port_of (are.free slot above)

  ports-count : length (ports_of state.clients) ≡ 64
  ports-count = length-map state.clients port_of ∙ are.slots

  not_joined : is_joined (ports_of state.clients) (length sites + 1) ≡ false
  not_joined =
      list_any_none (has_port (length sites + 1)) (ports_of state.clients)
      (All-from_get_or (λ place. has_port (length sites + 1) place ≡ false) (ports_of state.clients) None
      (λ i _. elim (cases_lt i (length sites)) [ inl below ↦ own i below | inr above ↦ ap (has_port (length sites + 1)) (port-free i above) ]))
    where
      own : (i : ℕ) → i < length sites → has_port (length sites + 1) (port_at (ports_of state.clients) i) ≡ false
      own i below =
          let differ : eqb (i + 1) (length sites + 1) ≡ false = grind (arith, nat_tests) in
          ap (has_port (length sites + 1)) (port-joined i below) ∙ differ

  slot-next : length sites < 64 → free_slot (ports_of state.clients) ≡ Some (length sites)
  slot-next below =
      let ports = ports_of state.clients in
      let count = ports-count in
      let first : position_or_len is_none ports ≡ length sites =
      position_or_len_is is_none ports (length sites) None (omega (arith, count))
      (λ i less. ap is_none (port-joined i less))
      (λ _. ap is_none (port-free (length sites) (omega arith))) in
      let within : ltb (length sites) (length ports) ≡ true = grind (arith, nat_tests) in
      rw first (rw within refl)

  place-next : length sites < 64 → slot_for (ports_of state.clients) (length sites + 1) ≡ Ok (length sites)
  place-next below = rw not_joined (rw (slot-next below) refl)

  -- a place that isn't taken is free
  open-place : length sites < 64 → (q : ℕ) → is_place m q ≡ true → taken sites q ≡ false
      → is_free state.records (body_at m q) (solids_of m) (length sites) ≡ true
  open-place few q place not_taken =
      let none = list_any_none (is_in_the_way (body_at m q) (length sites)) state.records
      (All-from_get_or (λ r. is_in_the_way (body_at m q) (length sites) r ≡ false) state.records None
      (λ i _. elim (cases_lt i (length sites)) [ inl below ↦ player i below | inr above ↦ other i above ])) in
      rw (place-at m q place).open_ (rw (sym (in_the_way-is (body_at m q) (length sites) state.records) ∙ none) refl)
    where
      player : (i : ℕ) → i < length sites → is_in_the_way (body_at m q) (length sites) (record_at state.records i) ≡ false
      player i below =
          let differ : eqb i (length sites) ≡ false = grind (arith, nat_tests) in
          ap (is_in_the_way (body_at m q) (length sites)) (are.players i below) ∙ rw differ (are.apart q place not_taken i below)

      other : (i : ℕ) → length sites ≤ i → is_in_the_way (body_at m q) (length sites) (record_at state.records i) ≡ false
      other i above = at (record_at state.records i) refl
        where
          solid : (r : Rec) (kind own over : Bool) → (kind ≡ true → over ≡ false) → (kind && not own && over) ≡ false
          solid r false own over h = refl
          solid r true true over h = refl
          solid r true false over h = h refl

          at : (place : Option Rec) → record_at state.records i ≡ place → is_in_the_way (body_at m q) (length sites) place ≡ false
          at None e = refl
          at (Some r) e = solid r (is_solid r.kind) (eqb r.id (length sites)) (overlaps (body_at m q) (body_of r)) (λ h. are.others i above r e h q place)

  test : Vec3 → Bool
  test at = is_free state.records (player_body at) (solids_of m) (length sites)

  -- where fewer have joined than there are places, some spawn is free
  pub record HasSpawn : Type 0 where
    pub site : ℕ
    pub found : free_spawn (solids_of m) state.records (length sites) m.spawns ≡ Some (spawn_of m site)
    pub within : site < length m.spawns
    pub before : (j : ℕ) → j < site → is_free state.records (body_at m j) (solids_of m) (length sites) ≡ false

  has-spawn : length sites < 64 → length sites < places_of m → HasSpawn
  has-spawn few places = by (free_spawn (solids_of m) state.records (length sites) m.spawns) refl
    where
      never : true ≡ false → ⊥
      never e = cc

      by : (o : Option Vec3) → free_spawn (solids_of m) state.records (length sites) m.spawns ≡ o → HasSpawn
      by (Some at) e =
          let first = first-of (λ (v : Vec3). is_free state.records (player_body v) (solids_of m) (length sites)) m.spawns zero_vector at e in
          record { site = first.at; found = e ∙ ap (λ (v : Vec3). Some v) (sym first.is); within = first.within; before = first.before }
      by None e =
          absurd (omega (arith, places-taken m sites (λ q place. each q place (taken sites q) refl), places))
        where
          each : (q : ℕ) → is_place m q ≡ true → (t : Bool) → taken sites q ≡ t → taken sites q ≡ true
          each q place true is = is
          each q place false is =
              absurd (never (sym (open-place few q place is)
              ∙ none-of (λ (v : Vec3). is_free state.records (player_body v) (solids_of m) (length sites)) m.spawns zero_vector e q (place-at m q place).within))

-- ---- a join

-- the next player joins at a spawn
pub record JoinsNext (m : MapView) (sites : List ℕ) (state : State) : Type 0 where
  pub site : ℕ
  pub answer : join_answer m state (length sites + 1) ≡ Ok (join_point (length sites) (spawn_of m site))
  pub next : AreJoined m (sites ++ site ∷ []) (with_newcomer state (length sites + 1) (length sites) (spawn_of m site))

site-old : (sites : List ℕ) (i slot : ℕ) → slot < length sites → get_or (sites ++ i ∷ []) slot 0 ≡ get_or sites slot 0
site-old [] i slot less = absurd (omega arith)
site-old (s ∷ sites) i zero less = refl
site-old (s ∷ sites) i (suc slot) less = site-old sites i slot (omega arith)

site-new : (sites : List ℕ) (i : ℕ) → get_or (sites ++ i ∷ []) (length sites) 0 ≡ i
site-new [] i = refl
site-new (s ∷ sites) i = site-new sites i

pub joins-next : (m : MapView) (sites : List ℕ) (state : State) → AreJoined m sites state → length sites < 64 → length sites < places_of m
    → JoinsNext m sites state
joins-next m sites state are few places =
    let has = has-spawn m sites state are few places in
    let i = has.site in
    let k = length sites in
    let more : length (sites ++ i ∷ []) ≡ k + 1 = omega (arith, length-append sites (i ∷ [])) in
    let new = newcomer k (spawn_of m i) in
    record {
      site = i;
      answer = rw (place-next m sites state are few) (rw has.found refl);
      next = record {
        slots = length-set state.clients k (Some (new_client (k + 1))) ∙ are.slots;
        joined = λ slot below. elim (read-set state.clients k slot (Some (new_client (k + 1)))) [
          | inl at ↦ at.2 ∙ ap (λ s. Some (new_client (s + 1))) (sym at.0)
          | inr kept ↦ elim (cases_lt slot k) [ inl less ↦ kept ∙ are.joined slot less | inr above ↦ own-client slot (omega (arith, below, more)) above ]
        ];
        free = λ slot above. elim (read-set state.clients k slot (Some (new_client (k + 1)))) [
          | inl at ↦ absurd (omega (arith, at.0, above, more))
          | inr kept ↦ kept ∙ are.free slot (omega (arith, above, more))
        ];
        records = length-set state.records k (Some new) ∙ are.records;
        players = λ slot below. elim (cases_lt slot k) [
          | inl less ↦ old-record i slot less
          | inr above ↦ own-record i slot (omega (arith, below, more)) above
        ];
        apart = λ q place none slot below. elim (cases_lt slot k) [
          | inl less ↦ ap (λ s. overlaps (body_at m q) (body_at m s)) (site-old sites i slot less) ∙ are.apart q place (parts i q none).0 slot less
          | inr above ↦ let at : slot ≡ k = omega (arith, below, more, above) in
              ap (λ n. overlaps (body_at m q) (body_at m (get_or (sites ++ i ∷ []) n 0))) at
              ∙ ap (λ s. overlaps (body_at m q) (body_at m s)) (site-new sites i)
              ∙ new-apart i q place (parts i q none).0 (parts i q none).1 has.within has.before
        ];
        others = λ id above r e solid q place. elim (read-set state.records k id (Some new)) [
          | inl at ↦ absurd (omega (arith, at.0, above, more))
          | inr kept ↦ are.others id (omega (arith, above, more)) r (sym kept ∙ e) solid q place
        ];
      };
    }
  where
    own-client : (slot : ℕ) → slot < length sites + 1 → length sites ≤ slot
        → client_at (slice_set state.clients (length sites) (Some (new_client (length sites + 1)))) slot ≡ Some (client (slot + 1) 0 false 0)
    own-client slot below above =
        let same : slot ≡ length sites = omega arith in
        rw same (get_or-set_same state.clients (length sites) (Some (new_client (length sites + 1))) None (omega (arith, are.slots)))

    own-record : (i slot : ℕ) → slot < length sites + 1 → length sites ≤ slot
        → record_at (slice_set state.records (length sites) (Some (newcomer (length sites) (spawn_of m i)))) slot
        ≡ Some (newcomer slot (spawn_of m (get_or (sites ++ i ∷ []) slot 0)))
    own-record i slot below above =
        let same : slot ≡ length sites = omega arith in
        rw same
        (get_or-set_same state.records (length sites) (Some (newcomer (length sites) (spawn_of m i))) None (omega (arith, are.records, few))
        ∙ ap (λ s. Some (newcomer (length sites) (spawn_of m s))) (sym (site-new sites i)))

    old-record : (i slot : ℕ) → slot < length sites
        → record_at (slice_set state.records (length sites) (Some (newcomer (length sites) (spawn_of m i)))) slot
        ≡ Some (newcomer slot (spawn_of m (get_or (sites ++ i ∷ []) slot 0)))
    old-record i slot less = elim (read-set state.records (length sites) slot (Some (newcomer (length sites) (spawn_of m i)))) [
      | inl at ↦ absurd (omega (arith, at.0))
      | inr kept ↦ kept ∙ are.players slot less ∙ ap (λ s. Some (newcomer slot (spawn_of m s))) (sym (site-old sites i slot less))
    ]

    parts : (i q : ℕ) → taken (sites ++ i ∷ []) q ≡ false → (taken sites q ≡ false) × (eqb i q ≡ false)
    parts i q none = split (taken sites q) (eqb i q) (sym (taken-more sites i q) ∙ none)
      where
        split : (a b : Bool) → (a || b) ≡ false → (a ≡ false) × (b ≡ false)
        split false b h = (refl, h)
        split true b h = cc

    new-apart : (i q : ℕ) → is_place m q ≡ true → taken sites q ≡ false → eqb i q ≡ false → i < length m.spawns
        → ((j : ℕ) → j < i → is_free state.records (body_at m j) (solids_of m) (length sites) ≡ false)
        → overlaps (body_at m q) (body_at m i) ≡ false
    new-apart i q place not_taken differ within before = elim (cases_lt i q) [
      | inl less ↦ (place-at m q place).first i less
      | inr above ↦ elim (cases_lt q i) [
        | inl earlier ↦ absurd (never (sym (open-place m sites state are few q place not_taken) ∙ before q earlier))
        | inr not_earlier ↦ absurd (other (omega arith))
      ]
    ]
      where
        never : true ≡ false → ⊥
        never e = cc

        other : i ≡ q → ⊥
        other same = let yes_ : eqb i q ≡ true = grind (arith, nat_tests) in never (sym yes_ ∙ differ)
