-- What each line of a map gives.
use Rattle.std.proofs.Common.{◌≡◌, ◌⊎◌, ℕ, zero, suc, ◌+◌, ◌-◌, ◌<◌, ◌≤◌, true, false, cond, nat_le, List, [], ◌∷◌, length, Some, None, option_and_then, slice_get, inl, inr, ℤ, refl, ap, ◌∙◌, arith}
use Rattle.std.proofs.lemmas.Bool.Decides.{nat_tests}
use Rattle.std.proofs.lemmas.Option.{none-some, slice_get_past}
use Rattle.arena_geo.specs.declared.vec3.Vec3.{Vec3}
use Rattle.arena_geo.specs.Vectors.{plus, minus, zero_vector}
use Rattle.arena_geo.specs.Bounds.{bounds}
use Rattle.arena_geo.proofs.Vectors.{plus-zero_vector}
use Rattle.entity_recs.specs.declared.kind.Kind.{Kind}
use Rattle.entity_recs.specs.declared.kind.Kind.TheVariants as kinds
use Rattle.arena_map.specs.declared.map_line.MapLine.{MapLine}
use Rattle.arena_map.specs.declared.map_line.MapLine.TheVariants.{Arena, Block, Spawn, Item, Teleport, Goal, Lift, Depth, Shots, Blocks}
use Rattle.arena_map.specs.Things.{record_of, records_from, dest_in, delay_in, lift_data}
use Rattle.arena_map.specs.Maps.{MapView, entities_of, thing_of}
use Rattle.arena_map.specs.LineThings.{IsThingBetween, HasThing, HasOnly, item_end, GivesAs, PutsThingsLast, LinesGiveTheirThings}
use Rattle.arena_map.proofs.ThingRecords.{corner}

-- ---- the records

item-between : (id delay : ℕ) (kind : Kind) (at : Vec3) → IsThingBetween id kind at (item_end at) (record_of id (Item at kind delay))
item-between id delay kind at = record {
  id_is = refl;
  kind_is = refl;
  origin = refl;
  mins = refl;
  body = ap (λ lo. bounds lo (item_end at)) (plus-zero_vector at);
  vel = refl;
  flags = refl;
  ammo = refl;
  carry = refl;
  score = refl;
  seq = refl;
  state = refl;
}

box-body : (lo hi : Vec3) → bounds (plus lo zero_vector) (plus lo (minus hi lo)) ≡ bounds lo hi
box-body lo hi = ap (λ low. bounds low (plus lo (minus hi lo))) (plus-zero_vector lo) ∙ ap (bounds lo) (corner lo hi)

teleport-between : (id : ℕ) (lo hi dest : Vec3) → IsThingBetween id kinds.Teleporter lo hi (record_of id (Teleport lo hi dest))
teleport-between id lo hi dest = record {
  id_is = refl;
  kind_is = refl;
  origin = refl;
  mins = refl;
  body = box-body lo hi;
  vel = refl;
  flags = refl;
  ammo = refl;
  carry = refl;
  score = refl;
  seq = refl;
  state = refl;
}

goal-between : (id : ℕ) (lo hi : Vec3) → IsThingBetween id kinds.Goal lo hi (record_of id (Goal lo hi))
goal-between id lo hi = record {
  id_is = refl;
  kind_is = refl;
  origin = refl;
  mins = refl;
  body = box-body lo hi;
  vel = refl;
  flags = refl;
  ammo = refl;
  carry = refl;
  score = refl;
  seq = refl;
  state = refl;
}

lift-between : (id : ℕ) (lo hi : Vec3) (rise speed : ℤ) → IsThingBetween id kinds.Lift lo hi (record_of id (Lift lo hi rise speed))
lift-between id lo hi rise speed = record {
  id_is = refl;
  kind_is = refl;
  origin = refl;
  mins = refl;
  body = box-body lo hi;
  vel = refl;
  flags = refl;
  ammo = refl;
  carry = refl;
  score = refl;
  seq = refl;
  state = refl;
}

-- ---- their places

same-line : (l line : MapLine) → Some l ≡ Some line → l ≡ line
same-line l line e = cc

record-at : (first place : ℕ) (things : List MapLine) (line : MapLine) → slice_get things place ≡ Some line
    → slice_get (records_from first things) place ≡ Some (record_of (first + place) line)
record-at first place [] line at = absurd (none-some line at)
record-at first zero (l ∷ things) line at =
    let same : first ≡ first + 0 = omega arith in
    ap (λ n. Some (record_of n l)) same ∙ ap (λ m. Some (record_of (first + 0) m)) (same-line l line at)
record-at first (suc place) (l ∷ things) line at =
    let same : (first + 1) + place ≡ first + suc place = omega arith in
    record-at (first + 1) place things line at ∙ ap (λ n. Some (record_of n line)) same

record-count : (first : ℕ) (things : List MapLine) → length (records_from first things) ≡ length things
record-count first [] = refl
record-count first (l ∷ things) = ap suc (record-count (first + 1) things)

-- ---- the data

module _ (map : MapView) (place : ℕ) (line : MapLine) (at : slice_get map.things place ≡ Some line) where
  line-of : thing_of map (64 + place) ≡ Some line
  line-of =
      let from : nat_le 64 (64 + place) ≡ true = grind (arith, nat_tests) in
      let back : (64 + place) - 64 ≡ place = omega arith in
      ap (λ b. cond b (slice_get map.things ((64 + place) - 64)) None) from ∙ ap (slice_get map.things) back ∙ at

  data-of : HasOnly map (64 + place) (dest_in line) (delay_in line) (lift_data line)
  data-of = record {
    dest_is = ap (option_and_then dest_in) line-of;
    delay_is = ap (option_and_then delay_in) line-of;
    lift_is = ap (option_and_then lift_data) line-of;
  }

  thing-at : (kind : Kind) (lo hi : Vec3) → IsThingBetween (64 + place) kind lo hi (record_of (64 + place) line)
      → HasThing (entities_of map) place (64 + place) kind lo hi
  thing-at kind lo hi is = record { thing = record_of (64 + place) line; at = record-at 64 place map.things line at; is = is }

gives : (map : MapView) (place : ℕ) (line : MapLine) → slice_get map.things place ≡ Some line → GivesAs map place (64 + place) line
gives map place (Arena lo hi) at = tt
gives map place (Block lo hi) at = tt
gives map place (Spawn to) at = tt
gives map place (Depth depth) at = tt
gives map place Shots at = tt
gives map place (Blocks most) at = tt
gives map place (Item to kind delay) at =
    (thing-at map place (Item to kind delay) at kind to (item_end to) (item-between (64 + place) delay kind to), data-of map place (Item to kind delay) at)
gives map place (Teleport lo hi dest) at =
    (thing-at map place (Teleport lo hi dest) at kinds.Teleporter lo hi (teleport-between (64 + place) lo hi dest), data-of map place (Teleport lo hi dest) at)
gives map place (Goal lo hi) at =
    (thing-at map place (Goal lo hi) at kinds.Goal lo hi (goal-between (64 + place) lo hi), data-of map place (Goal lo hi) at)
gives map place (Lift lo hi rise speed) at =
    (thing-at map place (Lift lo hi rise speed) at kinds.Lift lo hi (lift-between (64 + place) lo hi rise speed), data-of map place (Lift lo hi rise speed) at)

-- ---- other ids

no-line : (map : MapView) (id : ℕ) → (id < 64) ⊎ (64 + length map.things ≤ id) → thing_of map id ≡ None
no-line map id (inl below) =
    let before : nat_le 64 id ≡ false = grind (arith, nat_tests) in
    ap (λ b. cond b (slice_get map.things (id - 64)) None) before
no-line map id (inr beyond) =
    let from : nat_le 64 id ≡ true = grind (arith, nat_tests) in
    let past : length map.things ≤ id - 64 = omega (arith, beyond) in
    ap (λ b. cond b (slice_get map.things (id - 64)) None) from ∙ slice_get_past map.things (id - 64) past

no-data : (map : MapView) (id : ℕ) → (id < 64) ⊎ (64 + length map.things ≤ id) → HasOnly map id None None None
no-data map id outside = record {
  dest_is = ap (option_and_then dest_in) (no-line map id outside);
  delay_is = ap (option_and_then delay_in) (no-line map id outside);
  lift_is = ap (option_and_then lift_data) (no-line map id outside);
}

-- ---- lines in order

puts-last : (map : MapView) (line : MapLine) → PutsThingsLast map line
puts-last map (Arena lo hi) = record { thing = λ e. cc; other = λ e. refl }
puts-last map (Block lo hi) = record { thing = λ e. cc; other = λ e. refl }
puts-last map (Spawn at) = record { thing = λ e. cc; other = λ e. refl }
puts-last map (Item at kind delay) = record { thing = λ e. refl; other = λ e. cc }
puts-last map (Teleport lo hi dest) = record { thing = λ e. refl; other = λ e. cc }
puts-last map (Goal lo hi) = record { thing = λ e. refl; other = λ e. cc }
puts-last map (Lift lo hi rise speed) = record { thing = λ e. refl; other = λ e. cc }
puts-last map (Depth depth) = record { thing = λ e. cc; other = λ e. refl }
puts-last map Shots = record { thing = λ e. cc; other = λ e. refl }
puts-last map (Blocks most) = record { thing = λ e. cc; other = λ e. refl }

pub lines_give_their_things : LinesGiveTheirThings
lines_give_their_things =
    record { each = gives; count = λ map. record-count 64 map.things; other = no-data; last = puts-last }
