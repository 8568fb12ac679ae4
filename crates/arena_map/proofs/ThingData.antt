-- Each thing has the data of its kind.
use Rattle.std.proofs.Common.{◌≡◌, ℕ, suc, ◌+◌, ◌-◌, ◌<◌, ◌≤◌, ◌==◌, Bool, true, false, cond, nat_le, nat_lt, List, [], ◌∷◌, Option, Some, None, is_some, option_and_then, slice_get, refl, sym, ap, ◌∙◌, subst, arith}
use Rattle.std.specs.List.{find, AllByRecursion}
use Rattle.std.specs.Option.{option_map_or}
use Rattle.std.proofs.lemmas.Bool.Decides.{nat_tests}
use Rattle.std.proofs.lemmas.Option.{none-some, same_Some}
use Rattle.arena_geo.specs.declared.vec3.Vec3.{Vec3}
use Rattle.arena_geo.specs.Bounds.{Bounds}
use Rattle.entity_recs.specs.declared.kind.Kind.{Kind}
use Rattle.entity_recs.specs.declared.kind.Kind.TheVariants as kinds
use Rattle.entity_recs.specs.declared.rec.Rec.{Rec}
use Rattle.entity_recs.specs.Records.{IsIdOf}
use Rattle.entity_recs.specs.Kinds.{is_item}
use Rattle.arena_map.specs.declared.lift.Lift as lifts
use Rattle.arena_map.specs.declared.map_line.MapLine.{MapLine}
use Rattle.arena_map.specs.declared.map_line.MapLine.TheVariants.{Arena, Block, Spawn, Item, Teleport, Goal, Lift, Depth, Shots, Blocks}
use Rattle.arena_map.specs.MapLines.{is_thing_line, is_teleporter, is_lift}
use Rattle.arena_map.specs.Things.{record_of, records_from, dest_in, delay_in, lift_data}
use Rattle.arena_map.specs.Maps.{MapView, entities_of, thing_of, dest_of, delay_of, lift_of, has_thing, IsThingInside, IsMap}
use Rattle.arena_map.specs.Validity.{IsAsItsLine, IsThing}
use Rattle.arena_map.specs.Laws.{HasDataOf, HasData, DataFollowKinds, LiveRecordsHaveData}
use Rattle.arena_map.proofs.Kept.{each-of}
use Rattle.arena_map.proofs.ThingRecords.{own-id}
use Rattle.arena_map.proofs.Opening.{IsFound, found-in, no-thing-below}

-- the line at the place of an id gives the thing with that id
found-back : (first : ℕ) (things : List MapLine) (id : ℕ) (line : MapLine) → AllByRecursion (λ l. is_thing_line l ≡ true) things → first ≤ id
    → slice_get things (id - first) ≡ Some line → find (λ t. t.id == id) (records_from first things) ≡ Some (record_of id line)
found-back first [] id line each low at = absurd (none-some line at)
found-back first (l ∷ things) id line each low at =
    by (first == id) refl (ap (λ n. n == id) (own-id first l each.0)) (found-back (first + 1) things id line each.1)
  where
    later : (first == id) ≡ false → first + 1 ≤ id
    later e = grind (arith, nat_tests)

    by : (b : Bool) → (first == id) ≡ b → ((record_of first l).id == id) ≡ (first == id)
        → (first + 1 ≤ id → slice_get things (id - (first + 1)) ≡ Some line → find (λ t. t.id == id) (records_from (first + 1) things) ≡ Some (record_of id line))
        → cond ((record_of first l).id == id) (Some (record_of first l)) (find (λ t. t.id == id) (records_from (first + 1) things)) ≡ Some (record_of id line)
    by true e own more =
        let here : first ≡ id = grind (arith, nat_tests) in
        let place : id - first ≡ 0 = omega (arith, here) in
        let same : l ≡ line = same_Some l line (sym (ap (slice_get (l ∷ things)) place) ∙ at) in
        ap (λ b. cond b (Some (record_of first l)) (find (λ t. t.id == id) (records_from (first + 1) things))) (own ∙ e)
        ∙ ap (λ n. Some (record_of n l)) here
        ∙ ap (λ m. Some (record_of id m)) same
    by false e own more =
        let after = later e in
        let place : id - first ≡ suc (id - (first + 1)) = omega (arith, after) in
        ap (λ b. cond b (Some (record_of first l)) (find (λ t. t.id == id) (records_from (first + 1) things))) (own ∙ e)
        ∙ more after (sym (ap (slice_get (l ∷ things)) place) ∙ at)

-- where no thing has the id, no line is at its place
no-line : (map : MapView) (id : ℕ) (o : Option MapLine) → IsMap map → find (λ t. t.id == id) (entities_of map) ≡ None → thing_of map id ≡ o → o ≡ None
no-line map id None is none h = refl
no-line map id (Some line) is none h = by (nat_le 64 id) refl h
  where
    by : (b : Bool) → nat_le 64 id ≡ b → cond b (slice_get map.things (id - 64)) None ≡ Some line → Some line ≡ None
    by true e at =
        let low : 64 ≤ id = grind (arith, nat_tests) in
        let things = each-of (IsThingInside map.bounds) (λ l. is_thing_line l ≡ true) map.things (λ l inside. inside.thing) is.things in
        absurd (none-some (record_of id line) (sym none ∙ found-back 64 map.things id line things low at))
    by false e at = absurd (none-some line at)

line-of-found : (map : MapView) (id : ℕ) (thing : Rec) (found : IsFound map.bounds 64 map.things id thing) → thing_of map id ≡ Some found.line
line-of-found map id thing found =
    let low : 64 ≤ id = found.low in
    let least : nat_le 64 id ≡ true = grind (arith, nat_tests) in
    ap (λ b. cond b (slice_get map.things (id - 64)) None) least ∙ found.at

-- the data of a line's thing are those of its kind
abbrev LineHasDataOf : MapLine → Kind → Type 0
LineHasDataOf line kind = (is_some (dest_in line) ≡ is_teleporter kind) × (is_some (delay_in line) ≡ is_item kind) × (is_some (lift_data line) ≡ is_lift kind)

item-data : (id delay : ℕ) (kind : Kind) (at : Vec3) → is_item kind ≡ true → LineHasDataOf (Item at kind delay) kind
item-data id delay kinds.Ammo at is = (refl, refl, refl)
item-data id delay kinds.Gem at is = (refl, refl, refl)
item-data id delay kind at is = cc

data-of : (arena : Bounds) (id : ℕ) (line : MapLine) → IsThingInside arena line → LineHasDataOf line (record_of id line).kind
data-of arena id (Item at kind delay) inside = item-data id delay kind at inside.limits.1
data-of arena id (Teleport lo hi dest) inside = (refl, refl, refl)
data-of arena id (Goal lo hi) inside = (refl, refl, refl)
data-of arena id (Lift lo hi rise speed) inside = (refl, refl, refl)
data-of arena id (Arena lo hi) inside = let no = inside.thing in cc
data-of arena id (Block lo hi) inside = let no = inside.thing in cc
data-of arena id (Spawn at) inside = let no = inside.thing in cc
data-of arena id (Depth depth) inside = let no = inside.thing in cc
data-of arena id Shots inside = let no = inside.thing in cc
data-of arena id (Blocks most) inside = let no = inside.thing in cc

pub data_follow_kinds : DataFollowKinds
data_follow_kinds map id is = by (find (λ t. t.id == id) (entities_of map)) refl
  where
    by : (o : Option Rec) → find (λ t. t.id == id) (entities_of map) ≡ o → HasData map id o
    by None h =
        let none = no-line map id (thing_of map id) is h refl in
        (ap (option_and_then dest_in) none, ap (option_and_then delay_in) none, ap (option_and_then lift_data) none)
    by (Some thing) h =
        let found = found-in map id thing is h in
        let line = line-of-found map id thing found in
        let parts = data-of map.bounds id found.line found.inside in
        let kind : (record_of id found.line).kind ≡ thing.kind = ap (λ (r : Rec). r.kind) (sym found.is) in (
          ap (λ o. is_some (option_and_then dest_in o)) line ∙ parts.0 ∙ ap is_teleporter kind,
          ap (λ o. is_some (option_and_then delay_in o)) line ∙ parts.1 ∙ ap is_item kind,
          ap (λ o. is_some (option_and_then lift_data o)) line ∙ parts.2 ∙ ap is_lift kind,
        )

-- ---- live records

-- the data of a slot, which is no thing's
slot-data : (map : MapView) (id : ℕ) (kind : Kind) → IsMap map → IsIdOf kind id → id < 64 → HasDataOf map id kind
slot-data map id kinds.Player is own below =
    let P : Option Rec → Type 0 = HasData map id in
    let none : HasData map id None = subst P (no-thing-below map id is below) (data_follow_kinds map id is) in
    (ap is_some none.0, ap is_some none.1, ap is_some none.2)
slot-data map id kind is own below = absurd (omega (arith, own.least, below))

-- the record of a thing has its kind
kind-kept : (lift : Option lifts.Lift) (thing r : Rec) → IsAsItsLine lift thing r → thing.kind ≡ r.kind
kind-kept None thing r same = sym same.kind
kind-kept (Some lift) thing r same = sym same.kind

thing-data : (map : MapView) (id : ℕ) (o : Option Rec) (r : Rec) → HasData map id o → IsThing map o (Some r) → HasDataOf map id r.kind
thing-data map id None r has thing = absurd thing
thing-data map id (Some t) r has thing =
    let P : Kind → Type 0 = HasDataOf map id in
    subst P (kind-kept (lift_of map t.id) t r thing) has

pub live_records_have_data : LiveRecordsHaveData
live_records_have_data map records id r is valid live = by (nat_lt id 64) refl
  where
    by : (b : Bool) → nat_lt id 64 ≡ b → HasDataOf map id r.kind
    by true e =
        let below : id < 64 = grind (arith, nat_tests) in
        let each = valid.each id r live in
        let Own : ℕ → Type 0 = IsIdOf r.kind in
        slot-data map id r.kind is (subst Own each.own_id each.is_record.id) below
    by false e =
        let low : 64 ≤ id = grind (arith, nat_tests) in
        let P : Option Rec → Type 0 = IsThing map (find (λ t. t.id == id) (entities_of map)) in
        thing-data map id (find (λ t. t.id == id) (entities_of map)) r (data_follow_kinds map id is) (subst P live (valid.things id low))

-- ---- data are there exactly for the things of their kind

module _ (map : MapView) (id : ℕ) (is : IsMap map) where
  pub dest-some : is_some (dest_of map id) ≡ has_thing is_teleporter map id
  dest-some = by (find (λ t. t.id == id) (entities_of map)) (data_follow_kinds map id is)
    where
      by : (o : Option Rec) → HasData map id o → is_some (dest_of map id) ≡ option_map_or (λ (thing : Rec). is_teleporter thing.kind) o false
      by None has = ap is_some has.0
      by (Some thing) has = has.0

  pub delay-some : is_some (delay_of map id) ≡ has_thing is_item map id
  delay-some = by (find (λ t. t.id == id) (entities_of map)) (data_follow_kinds map id is)
    where
      by : (o : Option Rec) → HasData map id o → is_some (delay_of map id) ≡ option_map_or (λ (thing : Rec). is_item thing.kind) o false
      by None has = ap is_some has.1
      by (Some thing) has = has.1

  pub lift-some : is_some (lift_of map id) ≡ has_thing is_lift map id
  lift-some = by (find (λ t. t.id == id) (entities_of map)) (data_follow_kinds map id is)
    where
      by : (o : Option Rec) → HasData map id o → is_some (lift_of map id) ≡ option_map_or (λ (thing : Rec). is_lift thing.kind) o false
      by None has = ap is_some has.2
      by (Some thing) has = has.2
