-- The boxes of a region at the destinations of teleporters: they are few, and each is there.
use Rattle.std.proofs.Common.{◌≡◌, ℕ, suc, ◌+◌, ◌-◌, ◌≤◌, nat_le, Bool, true, false, ◌||◌, cond, if◌then◌else◌, List, [], ◌∷◌, length, Option, Some, None, option_and_then, slice_get, refl, sym, ap, ◌∙◌, arith}
use Rattle.std.specs.Prelude.{filter_map, count_by}
use Rattle.std.specs.List.{find, list_any, cons_option, AllByRecursion}
use Rattle.std.specs.Option.{option_map}
use Rattle.std.proofs.lemmas.Bool.Decides.{nat_tests}
use Rattle.std.proofs.lemmas.Option.{none-some, same_Some}
use Rattle.std.proofs.lemmas.Bool.{or_right}
use Rattle.arena_geo.specs.declared.vec3.Vec3.{Vec3}
use Rattle.arena_geo.specs.Bounds.{Bounds}
use Rattle.arena_geo.specs.Boxes.{touches}
use Rattle.entity_recs.specs.declared.rec.Rec.{Rec}
use Rattle.entity_recs.specs.Bodies.{abs_of}
use Rattle.arena_map.specs.declared.map_line.MapLine.{MapLine}
use Rattle.arena_map.specs.declared.map_line.MapLine.TheVariants.{Arena, Depth, Shots, Blocks, Block, Spawn, Item, Teleport, Goal, Lift}
use Rattle.arena_map.specs.MapLines.{is_thing_line, is_teleport_line}
use Rattle.arena_map.specs.Things.{record_of, records_from, dest_in}
use Rattle.arena_map.specs.Maps.{MapView, IsMap, IsThingInside, entities_of, dest_of}
use Rattle.arena_map.proofs.Counting.{count-cons}
use Rattle.arena_map.proofs.Kept.{each-of}
use Rattle.arena_map.proofs.ThingRecords.{own-id}
use Rattle.arena_outcomes.specs.Regions.{landing_at, landing_of}

module _ {X Y : Type 0} (h : X → Option Y) where
  -- a test of what it gives of an item that was found
  pub any_found : (p : Y → Bool) (test : X → Bool) (xs : List X) (x : X) (y : Y) → find test xs ≡ Some x → h x ≡ Some y
      → p y ≡ true → list_any p (filter_map h xs) ≡ true
  any_found p test [] x y found gives passes = absurd (none-some x found)
  any_found p test (z ∷ xs) x y found gives passes = by (test z) found (any_found p test xs x y)
    where
      first : (o : Option Y) → o ≡ Some y → list_any p (cons_option o (filter_map h xs)) ≡ true
      first None e = absurd (none-some y e)
      first (Some w) e =
          ap (λ (v : Y). p v || list_any p (filter_map h xs)) (same_Some w y e)
          ∙ ap (λ (b : Bool). b || list_any p (filter_map h xs)) passes

      later : (o : Option Y) → list_any p (filter_map h xs) ≡ true → list_any p (cons_option o (filter_map h xs)) ≡ true
      later None e = e
      later (Some w) e = or_right (p w) (list_any p (filter_map h xs)) e

      by : (b : Bool) → cond b (Some z) (find test xs) ≡ Some x
          → (find test xs ≡ Some x → h x ≡ Some y → p y ≡ true → list_any p (filter_map h xs) ≡ true)
          → list_any p (cons_option (h z) (filter_map h xs)) ≡ true
      by true e more = first (h z) (ap h (same_Some z x e) ∙ gives)
      by false e more = later (h z) (more e gives passes)

-- ---- how many there are

-- with one item more or less
pub cons-length : {Y : Type 0} (o : Option Y) (ys : List Y)
    → length (cons_option o ys) ≡ length (cons_option o []) + length ys
cons-length None ys = omega arith
cons-length (Some y) ys = omega arith

pub at-most-one : {Y : Type 0} (o : Option Y) → length (cons_option o []) ≤ 1
at-most-one None = omega arith
at-most-one (Some y) = omega arith

-- what is given of the things of a map, and of none but teleporters
module _ {Y : Type 0} (map : MapView) (h : Rec → Option Y) (of_leaps : (thing : Rec) → dest_of map thing.id ≡ None → h thing ≡ None) where
  -- where there is no destination nothing is given
  none-without : (thing : Rec) → dest_of map thing.id ≡ None → length (cons_option (h thing) []) ≤ 0
  none-without thing e =
      let none : length (cons_option (h thing) []) ≡ 0 = ap (λ (o : Option Y). length (cons_option o [])) (of_leaps thing e) in
      omega (arith, none)

  -- of a line that is no teleporter's nothing is given, and of one that is one at most
  few_at : (line : MapLine) (thing : Rec) → dest_of map thing.id ≡ dest_in line
      → length (cons_option (h thing) []) ≤ cond (is_teleport_line line) 1 0
  few_at (Arena lo hi) thing is = none-without thing is
  few_at (Depth depth) thing is = none-without thing is
  few_at Shots thing is = none-without thing is
  few_at (Blocks most) thing is = none-without thing is
  few_at (Block lo hi) thing is = none-without thing is
  few_at (Spawn at) thing is = none-without thing is
  few_at (Item at kind delay) thing is = none-without thing is
  few_at (Teleport lo hi dest) thing is = at-most-one (h thing)
  few_at (Goal lo hi) thing is = none-without thing is
  few_at (Lift lo hi rise speed) thing is = none-without thing is

  -- the destination of a thing is that of its line
  dest_at : (first id : ℕ) (line : MapLine) → 64 ≤ first → id ≡ first → Some line ≡ slice_get map.things (first - 64)
      → dest_of map id ≡ dest_in line
  dest_at first id line low id_is place =
      let least : nat_le 64 first ≡ true = grind (arith, nat_tests) in
      ap (dest_of map) id_is
      ∙ ap (λ (b : Bool). option_and_then dest_in (if b then slice_get map.things (first - 64) else None)) least
      ∙ ap (option_and_then dest_in) (sym place)

  few_from : (first : ℕ) (lines : List MapLine) → 64 ≤ first → AllByRecursion (λ line. is_thing_line line ≡ true) lines
      → ((k : ℕ) → slice_get lines k ≡ slice_get map.things ((first + k) - 64))
      → length (filter_map h (records_from first lines)) ≤ count_by is_teleport_line lines
  few_from first [] low each place = omega arith
  few_from first (line ∷ lines) low each place =
      let thing = record_of first line in
      let at : (first + 0) - 64 ≡ first - 64 = omega arith in
      let here =
      few_at line thing (dest_at first thing.id line low (own-id first line each.0) (place 0
      ∙ ap (slice_get map.things) at)) in
      let rest =
      few_from (first + 1) lines (omega (arith, low)) each.1 (λ k. let later : (first + suc k) - 64
      ≡ ((first + 1) + k) - 64 = omega arith in place (suc k) ∙ ap (slice_get map.things) later) in
      omega (arith, here, rest, cons-length (h thing) (filter_map h (records_from (first + 1) lines)), count-cons is_teleport_line line lines)

  -- so there are at most 16 of them
  pub few_given : IsMap map → length (filter_map h (entities_of map)) ≤ 16
  few_given is =
      let each =
      each-of (IsThingInside map.bounds) (λ line. is_thing_line line
      ≡ true) map.things (λ line inside. inside.thing) is.things in
      let few =
      few_from 64 map.things (omega arith) each (λ k. let same : k
      ≡ (64 + k) - 64 = omega arith in ap (slice_get map.things) same) in
      omega (arith, few, is.few_teleporters)

-- a region has at most 16 landings
pub few_landings : (map : MapView) (me : Rec) (reach : Bounds) → IsMap map → length (filter_map (landing_of map me reach) (entities_of map)) ≤ 16
few_landings map me reach is = few_given map (landing_of map me reach) none is
  where
    by : (touching : Bool) (dest : Option Vec3) → dest ≡ None → (if touching then option_map (landing_at me) dest else None) ≡ None
    by true None e = refl
    by true (Some dest) e = absurd (none-some dest (sym e))
    by false dest e = refl

    none : (thing : Rec) → dest_of map thing.id ≡ None → landing_of map me reach thing ≡ None
    none thing e = by (touches (abs_of thing) reach) (dest_of map thing.id) e
