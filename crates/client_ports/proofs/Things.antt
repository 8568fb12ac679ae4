-- That bodies are clear at the start: the only solids are the lifts of the map, whose shafts are apart.
use Rattle.std.proofs.Common.{◌≡◌, ℕ, zero, suc, ◌-◌, ◌<◌, ◌≤◌, true, false, int_lt, List, [], ◌∷◌, All, Option, Some, None, slice_get, ℤ, pos, ◌+ℤ◌, ◌-ℤ◌, ◌≤ℤ◌, refl, sym, ap, ◌∙◌, subst, inl, inr, arith}
use Rattle.std.specs.Cmp.Derive.{both_true}
use Rattle.std.specs.List.{AllPairs, filter_map, cons_option}
use Rattle.std.proofs.lemmas.Bool.{cases_Bool, cases_lt, and_parts}
use Rattle.std.proofs.lemmas.Int.{ints}
use Rattle.std.proofs.lemmas.List.Elements.{All-head, All-tail}
use Rattle.std.proofs.lemmas.Option.{none-some, same_Some}
use Rattle.arena_geo.specs.declared.vec3.Vec3.{Vec3}
use Rattle.arena_geo.specs.Vectors.{minus, zero_vector}
use Rattle.arena_geo.specs.Bounds.{Bounds}
use Rattle.arena_geo.specs.Boxes.{overlaps_on, overlaps}
use Rattle.arena_geo.proofs.Containment.{three_pass, all_three}
use Rattle.arena_geo.proofs.Overlaps.{overlaps-flips}
use Rattle.entity_recs.specs.declared.kind.Kind.{Kind}
use Rattle.entity_recs.specs.declared.kind.Kind.TheVariants as kinds
use Rattle.entity_recs.specs.declared.rec.Rec.{Rec}
use Rattle.entity_recs.specs.Bodies.{box_at_origin, body_of}
use Rattle.entity_recs.specs.Kinds.{is_solid, is_item}
use Rattle.arena_map.specs.declared.map_line.MapLine.{MapLine}
use Rattle.arena_map.specs.declared.map_line.MapLine.TheVariants.{Arena, Block, Spawn, Item, Teleport, Goal, Lift, Depth, Shots, Blocks}
use Rattle.arena_map.specs.Positions.{shaft, shaft_of}
use Rattle.arena_map.specs.Things.{record_of}
use Rattle.arena_map.specs.Maps.{MapView, IsMap, IsThingInside}
use Rattle.arena_map.specs.Validity.{IsOpeningWorld}
use Rattle.arena_map.proofs.Opening.{found-in}
use Rattle.world_tree.specs.Live.{record_at}
use Rattle.arena_map.specs.Validity.{AreClear}

-- ---- pairs of a filtered list

-- what holds of each element that is kept holds of this one
kept-one : {X Y : Type 0} (h : X → Option Y) (P : Y → Type 0) (xs : List X) (j : ℕ) (x : X) (b : Y) → All P (filter_map h xs) → slice_get xs j ≡ Some x → h x ≡ Some b → P b
kept-one h P [] j x b all at is = absurd (none-some x at)
kept-one {X} {Y} h P (y ∷ xs) zero x b all at is = by (h y) (ap h (same_Some y x at) ∙ is) all
  where
    by : (o : Option Y) → o ≡ Some b → All P (cons_option o (filter_map h xs)) → P b
    by None e p = absurd (none-some b e)
    by (Some c) e p = subst P (same_Some c b e) (All-head P c (filter_map h xs) p)
kept-one {X} {Y} h P (y ∷ xs) (suc j) x b all at is = kept-one h P xs j x b (by (h y) all) at is
  where
    by : (o : Option Y) → All P (cons_option o (filter_map h xs)) → All P (filter_map h xs)
    by None p = p
    by (Some c) p = All-tail P c (filter_map h xs) p

-- what holds of each pair that is kept holds of this one
kept-pair : {X Y : Type 0} (h : X → Option Y) (R : Y → Y → Type 0) (xs : List X) (i j : ℕ) (x y : X) (a b : Y) → AllPairs R (filter_map h xs) → i < j
    → slice_get xs i ≡ Some x → slice_get xs j ≡ Some y → h x ≡ Some a → h y ≡ Some b → R a b
kept-pair h R [] i j x y a b pairs less at_i at_j is_a is_b = absurd (none-some x at_i)
kept-pair h R (z ∷ xs) i zero x y a b pairs less at_i at_j is_a is_b = absurd (omega (arith, less))
kept-pair {X} {Y} h R (z ∷ xs) zero (suc j) x y a b pairs less at_i at_j is_a is_b = by (h z) (ap h (same_Some z x at_i) ∙ is_a) pairs
  where
    by : (o : Option Y) → o ≡ Some a → AllPairs R (cons_option o (filter_map h xs)) → R a b
    by None e p = absurd (none-some a e)
    by (Some c) e p =
        subst (λ (k : Y). R k b) (same_Some c a e) (kept-one h (R c) xs j y b (λ k d inside. p 0 (suc k) d (omega arith) (omega (arith, inside))) at_j is_b)
kept-pair {X} {Y} h R (z ∷ xs) (suc i) (suc j) x y a b pairs less at_i at_j is_a is_b = kept-pair h R xs i j x y a b (by (h z) pairs) (omega (arith, less)) at_i at_j is_a is_b
  where
    by : (o : Option Y) → AllPairs R (cons_option o (filter_map h xs)) → AllPairs R (filter_map h xs)
    by None p = p
    by (Some c) p = λ k l d below inside. p (suc k) (suc l) d (omega (arith, below)) (omega (arith, inside))

-- ---- lifts

-- what overlaps at the lowest places overlaps up the shafts
below : (lo low high up : ℤ) → pos 0 ≤ℤ up → int_lt (lo +ℤ pos 0) (low +ℤ (high -ℤ low)) ≡ true → int_lt lo (high +ℤ up) ≡ true
below lo low high up a h = grind (arith, ints)

axis : (lo hi rise low high up : ℤ) → pos 0 ≤ℤ rise → pos 0 ≤ℤ up → overlaps_on (lo +ℤ pos 0) (lo +ℤ (hi -ℤ lo)) (low +ℤ pos 0) (low +ℤ (high -ℤ low)) ≡ true
    → overlaps_on lo (hi +ℤ rise) low (high +ℤ up) ≡ true
axis lo hi rise low high up a b h =
    let parts = and_parts _ _ h in
    both_true (below lo low high up b parts.0) (below low lo hi rise a parts.1)

shafts-overlap : (lo hi : Vec3) (rise : ℤ) (low high : Vec3) (up : ℤ) → pos 0 ≤ℤ rise → pos 0 ≤ℤ up
    → overlaps (box_at_origin lo zero_vector (minus hi lo)) (box_at_origin low zero_vector (minus high low)) ≡ true → overlaps (shaft lo hi rise) (shaft low high up) ≡ true
shafts-overlap lo hi rise low high up a b h =
    let none : pos 0 ≤ℤ pos 0 = omega (arith, ints) in
    let t = three_pass _ _ _ h in
    all_three (axis lo.x hi.x (pos 0) low.x high.x (pos 0) none none t.x) (axis lo.y hi.y (pos 0) low.y high.y (pos 0) none none t.y) (axis lo.z hi.z rise low.z high.z up a b t.z)

-- the record is that of a lift of the map
record IsLiftAt (map : MapView) (id : ℕ) (r : Rec) : Type 0 where
  lo : Vec3
  hi : Vec3
  rise : ℤ
  speed : ℤ
  low : 64 ≤ id
  at : slice_get map.things (id - 64) ≡ Some (Lift lo hi rise speed)
  upward : pos 0 ≤ℤ rise
  body : body_of r ≡ box_at_origin lo zero_vector (minus hi lo)

no-item : (k : Kind) → is_item k ≡ true → is_solid k ≡ true → ⊥
no-item kinds.Player i s = cc
no-item kinds.Ammo i s = cc
no-item kinds.Gem i s = cc
no-item kinds.Teleporter i s = cc
no-item kinds.Goal i s = cc
no-item kinds.Lift i s = cc

-- a solid thing is a lift
solid-is_lift : (map : MapView) (records : List (Option Rec)) (id : ℕ) (r : Rec) → IsMap map → IsOpeningWorld map records → record_at records id ≡ Some r → is_solid r.kind ≡ true → IsLiftAt map id r
solid-is_lift map records id r rules opening at solid = let f = found-in map id r rules (sym (opening id) ∙ at) in by f.line f.inside f.low f.at f.is
  where
    kind-of : (line : MapLine) → r ≡ record_of id line → is_solid (record_of id line).kind ≡ true
    kind-of line is = sym (ap (λ (s : Rec). is_solid s.kind) is) ∙ solid

    by : (line : MapLine) → IsThingInside map.bounds line → 64 ≤ id → slice_get map.things (id - 64) ≡ Some line → r ≡ record_of id line → IsLiftAt map id r
    by (Arena lo hi) inside low at is = let no_thing = inside.thing in cc
    by (Block lo hi) inside low at is = let no_thing = inside.thing in cc
    by (Spawn at) inside low place is = let no_thing = inside.thing in cc
    by (Depth depth) inside low place is = let no_thing = inside.thing in cc
    by Shots inside low place is = let no_thing = inside.thing in cc
    by (Blocks most) inside low place is = let no_thing = inside.thing in cc
    by (Item at kind delay) inside low place is = absurd (no-item kind inside.limits.1 (kind-of (Item at kind delay) is))
    by (Teleport lo hi dest) inside low at is = let no_solid = kind-of (Teleport lo hi dest) is in cc
    by (Goal lo hi) inside low at is = let no_solid = kind-of (Goal lo hi) is in cc
    by (Lift lo hi rise speed) inside low at is = record {
      lo = lo;
      hi = hi;
      rise = rise;
      speed = speed;
      low = low;
      at = at;
      upward = let least = inside.limits.2 in omega (arith, ints, least);
      body = ap body_of is;
    }

-- two lifts, in the order of their lines
lifts-apart : (map : MapView) (i j : ℕ) (r s : Rec) → IsMap map → IsLiftAt map i r → IsLiftAt map j s → i < j → overlaps (body_of r) (body_of s) ≡ false
lifts-apart map i j r s rules a b less = elim (cases_Bool (overlaps (body_of r) (body_of s))) [
  | inl yes_they ↦
      let bodies : overlaps (box_at_origin a.lo zero_vector (minus a.hi a.lo)) (box_at_origin b.lo zero_vector (minus b.hi b.lo)) ≡ true =
      sym (ap (λ (x : Bounds). overlaps x (body_of s)) a.body ∙ ap (overlaps (box_at_origin a.lo zero_vector (minus a.hi a.lo))) b.body) ∙ yes_they in
      let shafts = shafts-overlap a.lo a.hi a.rise b.lo b.hi b.rise a.upward b.upward bodies in
      let apart = kept-pair shaft_of (λ one other. overlaps one other ≡ false) map.things (i - 64) (j - 64) (Lift a.lo a.hi a.rise a.speed) (Lift b.lo b.hi b.rise b.speed)
      (shaft a.lo a.hi a.rise) (shaft b.lo b.hi b.rise) rules.shafts_apart (omega (arith, less, a.low, b.low)) a.at b.at refl refl in
      absurd (true-false (sym shafts ∙ apart))
  | inr no_they ↦ no_they
]
  where
    true-false : true ≡ false → ⊥
    true-false h = cc

-- bodies are clear at the start
pub opening_clear : (map : MapView) (records : List (Option Rec)) → IsMap map → IsOpeningWorld map records → AreClear map records
opening_clear map records rules opening = record {
  of_the_map = λ id r at player. absurd (no-player id r at player);
  of_each_other = λ i j r s at_i at_j solid_r solid_s apart.
      let a = solid-is_lift map records i r rules opening at_i solid_r in
      let b = solid-is_lift map records j s rules opening at_j solid_s in
      elim (cases_lt i j) [
        | inl less ↦ lifts-apart map i j r s rules a b less
        | inr more ↦ overlaps-flips (body_of r) (body_of s) ∙ lifts-apart map j i s r rules b a (omega (arith, more, apart))
      ];
}
  where
    no-player : (id : ℕ) (r : Rec) → record_at records id ≡ Some r → r.kind ≡ kinds.Player → ⊥
    no-player id r at player =
        let f = found-in map id r rules (sym (opening id) ∙ at) in
        by f.line f.inside (sym player ∙ ap (λ (s : Rec). s.kind) f.is)
      where
        by : (line : MapLine) → IsThingInside map.bounds line → kinds.Player ≡ (record_of id line).kind → ⊥
        by (Arena lo hi) inside e = let no_thing = inside.thing in cc
        by (Block lo hi) inside e = let no_thing = inside.thing in cc
        by (Spawn at) inside e = let no_thing = inside.thing in cc
        by (Depth depth) inside e = let no_thing = inside.thing in cc
        by Shots inside e = let no_thing = inside.thing in cc
        by (Blocks most) inside e = let no_thing = inside.thing in cc
        by (Item at kind delay) inside e = no-item kind inside.limits.1 (ap is_solid (sym e))
        by (Teleport lo hi dest) inside e = cc
        by (Goal lo hi) inside e = cc
        by (Lift lo hi rise speed) inside e = cc
