-- Worlds that tests begin with: the opening world, players that are put in, and items that are taken.
use Rattle.std.proofs.Common.{◌≡◌, ◌⊎◌, ℕ, ◌<◌, ◌≤◌, ◌==◌, true, List, length, Option, Some, None, Result, Ok, Err, IfOk, IsSome, is_some, slice_set, refl, sym, ap, ◌∙◌, subst, inl, inr, arith, get_or-set_same, get_or-set_other}
use Rattle.std.specs.List.{find}
use Rattle.std.proofs.lemmas.Bool.{cases_eq, cases_lt}
use Rattle.std.proofs.lemmas.List.{get_or_past, length-set}
use Rattle.std.proofs.lemmas.Option.{same_Some}
use Rattle.arena_geo.specs.declared.vec3.Vec3.{Vec3}
use Rattle.arena_geo.specs.Vectors.{IsNear}
use Rattle.arena_geo.specs.Boxes.{contains}
use Rattle.entity_recs.specs.declared.kind.Kind.TheVariants as kinds
use Rattle.entity_recs.specs.declared.rec.Rec.{Rec}
use Rattle.entity_recs.specs.declared.bodies.TheConstants.{PLAYER_MINS, PLAYER_MAXS}
use Rattle.entity_recs.specs.Records.{IsRecord, with_state}
use Rattle.entity_recs.specs.Bodies.{player_body}
use Rattle.entity_recs.specs.Kinds.{is_item}
use Rattle.arena_map.specs.Things.{thing_at_rest}
use Rattle.arena_map.specs.Maps.{MapView, IsMap, entities_of, lift_of}
use Rattle.arena_map.specs.Validity.{IsThing, IsValidRecord, IsValidWorld}
use Rattle.arena_map.proofs.Opening.{opening-is_valid, begins_unhurt}
use Rattle.world_tree.specs.Live.{record_at}
use Rattle.world_tree.specs.Worlds.{WorldView, record_of, with_record, without_id}
use Rattle.world_physics.proofs.Changes.{relinked}
use Rattle.world_physics.proofs.Valid.{any_state, item_state, valid_in_state}

-- the opening world of a map is valid
pub opened : {E : Type 0} (map : MapView) (start : List Rec) (w : Result WorldView E) → IsMap map → start ≡ entities_of map
    → IfOk w (λ w. (id : ℕ) → record_of w id ≡ find (λ r. r.id == id) start) → IfOk w (λ w. IsValidWorld map w.records)
opened map start (Err e) rules things records = tt
opened map start (Ok w) rules things records = opening-is_valid map w.records rules (λ id. records id ∙ ap (λ (s : List Rec). find (λ r. r.id == id) s) things)

-- ---- one record that is put in

-- a place after it is written
read-set : (records : List (Option Rec)) (k : ℕ) (r : Rec) → (record_at (slice_set records k (Some r)) k ≡ Some r) ⊎ (record_at (slice_set records k (Some r)) k ≡ record_at records k)
read-set records k r = elim (cases_lt k (length records)) [
  | inl within ↦ inl (get_or-set_same records k (Some r) None within)
  | inr past ↦ inr (get_or_past (slice_set records k (Some r)) k None (omega (arith, past, length-set records k (Some r))) ∙ sym (get_or_past records k None past))
]

pub valid-with : (map : MapView) (records : List (Option Rec)) (k : ℕ) (r : Rec) → IsValidWorld map records → IsValidRecord map k r
    → (64 ≤ k → IsThing map (find (λ t. t.id == k) (entities_of map)) (Some r)) → IsValidWorld map (slice_set records k (Some r))
valid-with map records k r valid here thing = record { each = each; things = things }
  where
    each : (id : ℕ) (s : Rec) → record_at (slice_set records k (Some r)) id ≡ Some s → IsValidRecord map id s
    each id s e = elim (cases_eq id k) [
      | inl same ↦
          let P : ℕ → Type 0 = λ j. IsValidRecord map j s in
          let at = sym (ap (record_at (slice_set records k (Some r))) same) ∙ e in
          elim (read-set records k r) [
            | inl new ↦ let Q : Rec → Type 0 = IsValidRecord map k in subst P (sym same) (subst Q (same_Some r s (sym new ∙ at)) here)
            | inr old ↦ subst P (sym same) (valid.each k s (sym old ∙ at))
          ]
      | inr other ↦ valid.each id s (sym (get_or-set_other records k id (Some r) None other) ∙ e)
    ]

    things : (id : ℕ) → 64 ≤ id → IsThing map (find (λ t. t.id == id) (entities_of map)) (record_at (slice_set records k (Some r)) id)
    things id low =
        let P : Option Rec → Type 0 = IsThing map (find (λ t. t.id == id) (entities_of map)) in
        elim (cases_eq id k) [
          | inl same ↦
              let Q : ℕ → Type 0 = λ j. IsThing map (find (λ t. t.id == j) (entities_of map)) (record_at (slice_set records k (Some r)) j) in
              let R : Option Rec → Type 0 = IsThing map (find (λ t. t.id == k) (entities_of map)) in
              let low_k : 64 ≤ k = omega (arith, same, low) in
              elim (read-set records k r) [
                | inl new ↦ subst Q (sym same) (subst R (sym new) (thing low_k))
                | inr old ↦ subst Q (sym same) (subst R (sym old) (valid.things k low_k))
              ]
          | inr other ↦ subst P (sym (get_or-set_other records k id (Some r) None other)) (valid.things id low)
        ]

-- ---- players

-- a player at rest
abbrev pub player_at : ℕ → Vec3 → Rec
player_at slot origin = thing_at_rest slot kinds.Player origin PLAYER_MINS PLAYER_MAXS

player_is_record : (slot : ℕ) (origin : Vec3) → slot < 64 → IsNear 1048576 origin → IsRecord (player_at slot origin)
player_is_record slot origin below near = record {
  id = below;
  origin = near;
  shape = record { low_is = refl; high_is = refl };
  vel = record { x = omega arith; y = omega arith; z = omega arith };
  flags = omega arith;
  ammo = omega arith;
  carry = omega arith;
}

pub made_is_record : (slot : ℕ) (origin : Vec3) (r : Rec) → slot < 64 → IsNear 1048576 origin → r ≡ player_at slot origin → IsRecord r
made_is_record slot origin r below near is = subst IsRecord (sym is) (player_is_record slot origin below near)

-- the slot is free
pub still_free : (records : List (Option Rec)) (slot : ℕ) (origin : Vec3) (r : Rec) → record_at records slot ≡ None → r ≡ player_at slot origin → record_at records r.id ≡ None
still_free records slot origin r free is = ap (λ (s : Rec). record_at records s.id) is ∙ free

-- a world is valid with a player inside the arena
pub joined : (map : MapView) (w new : WorldView) (slot : ℕ) (origin : Vec3) (r : Rec) → IsValidWorld map w.records → slot < 64 → IsNear 1048576 origin
    → contains map.bounds (player_body origin) ≡ true → r ≡ player_at slot origin → new ≡ with_record w r → IsValidWorld map new.records
joined map w new slot origin r valid below near inside is made =
    let P : Rec → Type 0 = λ s. IsValidWorld map (slice_set w.records s.id (Some s)) in
    let here : IsValidRecord map slot (player_at slot origin) =
    record { is_record = player_is_record slot origin below near; own_id = refl; state = begins_unhurt map; inside = λ _. inside } in
    let there = valid-with map w.records slot (player_at slot origin) valid here (λ low. absurd (omega (arith, low, below))) in
    subst (IsValidWorld map) (sym (ap (λ (v : WorldView). v.records) made)) (subst P (sym is) there)

-- ---- items

thing_in_state : (map : MapView) (t : Option Rec) (r : Rec) (state : ℕ) → IsThing map t (Some r) → IsThing map t (Some (with_state r state))
thing_in_state map None r state is = is
thing_in_state map (Some thing) r state is = any_state (lift_of map thing.id) thing r state is

-- a world is valid with an item in another state
pub taken : (map : MapView) (w new : WorldView) (id state : ℕ) (r away : Rec) → IsValidWorld map w.records → record_at w.records id ≡ Some r → is_item r.kind ≡ true
    → away ≡ with_state r state → new ≡ with_record (without_id w away.id) away → IsValidWorld map new.records
taken map w new id state r away valid at item is made =
    let here = valid.each id r at in
    let next = valid_in_state map id r state here (item_state map r.kind state item) in
    let P : Option Rec → Type 0 = IsThing map (find (λ t. t.id == id) (entities_of map)) in
    let there = valid-with map w.records id (with_state r state) valid next (λ low. thing_in_state map (find (λ t. t.id == id) (entities_of map)) r state (subst P at (valid.things id low))) in
    let records_are =
    ap (λ (v : WorldView). v.records) made
    ∙ relinked w.records away.id away
    ∙ ap (λ (a : Rec). slice_set w.records a.id (Some a)) is
    ∙ ap (λ k. slice_set w.records k (Some (with_state r state))) here.own_id in
    subst (IsValidWorld map) (sym records_are) there

pub taken_is_record : (map : MapView) (records : List (Option Rec)) (id state : ℕ) (r away : Rec) → IsValidWorld map records → record_at records id ≡ Some r → away ≡ with_state r state → IsRecord away
taken_is_record map records id state r away valid at is =
    let rec = (valid.each id r at).is_record in
    subst IsRecord (sym is) (record { id = rec.id; origin = rec.origin; shape = rec.shape; vel = rec.vel; flags = rec.flags; ammo = rec.ammo; carry = rec.carry })

pub taken_is_live : (map : MapView) (records : List (Option Rec)) (id state : ℕ) (r away : Rec) → IsValidWorld map records → record_at records id ≡ Some r → away ≡ with_state r state
    → IsSome (record_at records away.id)
taken_is_live map records id state r away valid at is =
    ap (λ (a : Rec). is_some (record_at records a.id)) is ∙ ap (λ k. is_some (record_at records k)) (valid.each id r at).own_id ∙ ap is_some at
