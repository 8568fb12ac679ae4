-- Lifts are in their shafts, which are apart.
use Rattle.std.proofs.Common.{◌≡◌, ◌≢◌, ℕ, zero, suc, ◌-◌, ◌<◌, ◌≤◌, true, false, ℤ, pos, ◌+ℤ◌, ◌-ℤ◌, ◌≤ℤ◌, List, [], ◌∷◌, Option, Some, None, slice_get, filter_map, All, AllPairs, inl, inr, refl, sym, ap, ◌∙◌, subst, arith}
use Rattle.std.specs.List.{cons_option}
use Rattle.std.proofs.lemmas.Bool.{cases_Bool, cases_lt, both_ways}
use Rattle.std.proofs.lemmas.Int.{ints}
use Rattle.std.proofs.lemmas.Option.{none-some, same_Some}
use Rattle.std.proofs.lemmas.List.Elements.{All-head, All-tail}
use Rattle.arena_geo.specs.declared.vec3.Vec3.{Vec3}
use Rattle.arena_geo.specs.Bounds.{Bounds}
use Rattle.arena_geo.specs.Boxes.{contains_on, contains, overlaps_on, overlaps}
use Rattle.arena_geo.proofs.Containment.{ThreePass, three_pass, all_three}
use Rattle.arena_geo.proofs.Overlaps.{overlaps-flips}
use Rattle.entity_recs.specs.declared.rec.Rec.{Rec}
use Rattle.entity_recs.specs.Bodies.{body_of}
use Rattle.arena_map.specs.declared.lift.Lift as lifts
use Rattle.arena_map.specs.declared.map_line.MapLine.{MapLine}
use Rattle.arena_map.specs.declared.map_line.MapLine.TheVariants.{Lift}
use Rattle.arena_map.specs.Positions.{shaft, shaft_of}
use Rattle.arena_map.specs.Things.{record_of, lift_data}
use Rattle.arena_map.specs.Maps.{MapView, IsMap, lift_of}
use Rattle.arena_map.specs.Validity.{IsSameLift}
use Rattle.arena_map.proofs.Opening.{found-in, lift-of-line}
use Rattle.world_physics.proofs.Raised.{inside_parts}
use Rattle.world_physics.proofs.LiftRecords.{IsLiftAt}

-- ---- pairs of shafts

-- two boxes don't overlap
abbrev pub AreApart : Bounds → Bounds → Type 0
AreApart one other = overlaps one other ≡ false

pub rest_all : (P : Bounds → Type 0) (first : Option Bounds) (rest : List Bounds) → All P (cons_option first rest) → All P rest
rest_all P None rest all = all
rest_all P (Some x) rest all = All-tail P x rest all

-- what holds of all shafts holds of that of a line
pub shaft_has : (P : Bounds → Type 0) (things : List MapLine) (j : ℕ) (line : MapLine) (own : Bounds) → All P (filter_map shaft_of things) → slice_get things j ≡ Some line
    → shaft_of line ≡ Some own → P own
shaft_has P [] j line own all at is = absurd (none-some line at)
shaft_has P (x ∷ things) zero line own all at is =
    let Q : Option Bounds → Type 0 = λ first. All P (cons_option first (filter_map shaft_of things)) in
    All-head P own (filter_map shaft_of things) (subst Q (ap shaft_of (same_Some x line at) ∙ is) all)
shaft_has P (x ∷ things) (suc j) line own all at is = shaft_has P things j line own (rest_all P (shaft_of x) (filter_map shaft_of things) all) at is

pub rest_apart : (first : Option Bounds) (rest : List Bounds) → AllPairs AreApart (cons_option first rest) → AllPairs AreApart rest
rest_apart None rest apart = apart
rest_apart (Some x) rest apart = λ i j d before within. apart (suc i) (suc j) d (omega (arith, before)) (omega (arith, within))

-- the shafts of two lines, one after the other, are apart
pub shafts_apart : (things : List MapLine) (i j : ℕ) (line later : MapLine) (own other : Bounds) → AllPairs AreApart (filter_map shaft_of things)
    → slice_get things i ≡ Some line → slice_get things j ≡ Some later → i < j → shaft_of line ≡ Some own → shaft_of later ≡ Some other → AreApart own other
shafts_apart [] i j line later own other apart at_i at_j before is there = absurd (none-some line at_i)
shafts_apart (x ∷ things) i zero line later own other apart at_i at_j before is there = absurd (omega (arith, before))
shafts_apart (x ∷ things) zero (suc j) line later own other apart at_i at_j before is there =
    let Q : Option Bounds → Type 0 = λ first. AllPairs AreApart (cons_option first (filter_map shaft_of things)) in
    let first = subst Q (ap shaft_of (same_Some x line at_i) ∙ is) apart in
    shaft_has (AreApart own) things j later other (λ k d within. first 0 (suc k) d (omega arith) (omega (arith, within))) at_j there
shafts_apart (x ∷ things) (suc i) (suc j) line later own other apart at_i at_j before is there =
    shafts_apart things i j line later own other (rest_apart (shaft_of x) (filter_map shaft_of things) apart) at_i at_j (omega (arith, before)) is there

-- ---- boxes inside boxes that are apart

pub overlap_out : (lo hi l h low high lower higher : ℤ) → contains_on lo hi low high ≡ true → contains_on l h lower higher ≡ true → overlaps_on low high lower higher ≡ true
    → overlaps_on lo hi l h ≡ true
overlap_out lo hi l h low high lower higher one other both = grind (arith, ints)

-- the axes of boxes that overlap
pub overlap_parts : (a b : Bounds) → overlaps a b ≡ true
    → ThreePass (overlaps_on a.lo.x a.hi.x b.lo.x b.hi.x) (overlaps_on a.lo.y a.hi.y b.lo.y b.hi.y) (overlaps_on a.lo.z a.hi.z b.lo.z b.hi.z)
overlap_parts a b h = three_pass (overlaps_on a.lo.x a.hi.x b.lo.x b.hi.x) (overlaps_on a.lo.y a.hi.y b.lo.y b.hi.y) (overlaps_on a.lo.z a.hi.z b.lo.z b.hi.z) h

-- boxes inside boxes that don't overlap don't overlap
pub apart_inside : (a b one other : Bounds) → contains a one ≡ true → contains b other ≡ true → AreApart a b → AreApart one other
apart_inside a b one other in_a in_b apart = elim (cases_Bool (overlaps one other)) [
  | inl both ↦
      let s = inside_parts a one in_a in
      let t = inside_parts b other in_b in
      let u = overlap_parts one other both in
      absurd (both_ways _ apart (all_three
      (overlap_out a.lo.x a.hi.x b.lo.x b.hi.x one.lo.x one.hi.x other.lo.x other.hi.x s.x t.x u.x)
      (overlap_out a.lo.y a.hi.y b.lo.y b.hi.y one.lo.y one.hi.y other.lo.y other.hi.y s.y t.y u.y)
      (overlap_out a.lo.z a.hi.z b.lo.z b.hi.z one.lo.z one.hi.z other.lo.z other.hi.z s.z t.z u.z)))
  | inr none ↦ none
]

-- ---- a lift in its shaft

-- on an axis on which the lift doesn't move
on_level : (lo hi at mins maxs : ℤ) → at ≡ lo → mins ≡ pos 0 → maxs ≡ hi -ℤ lo → contains_on lo (hi +ℤ pos 0) (at +ℤ mins) (at +ℤ maxs) ≡ true
on_level lo hi at mins maxs o m n = grind (arith, ints, o, m, n)

-- and on z
on_way : (lo hi rise at mins maxs : ℤ) → lo ≤ℤ at → at ≤ℤ (lo +ℤ rise) → mins ≡ pos 0 → maxs ≡ hi -ℤ lo → contains_on lo (hi +ℤ rise) (at +ℤ mins) (at +ℤ maxs) ≡ true
on_way lo hi rise at mins maxs low high m n = grind (arith, ints, low, high, m, n)

-- the record is inside the shaft of its line
record IsInShaft (map : MapView) (id : ℕ) (r : Rec) : Type 0 where
  line : MapLine
  own : Bounds
  low : 64 ≤ id
  at : slice_get map.things (id - 64) ≡ Some line
  is : shaft_of line ≡ Some own
  inside : contains own (body_of r) ≡ true

in_shaft_of : (map : MapView) (id : ℕ) (line : MapLine) (lift : lifts.Lift) (thing r : Rec) → 64 ≤ id → slice_get map.things (id - 64) ≡ Some line → thing ≡ record_of id line
    → lift_data line ≡ Some lift → IsSameLift lift thing r → IsInShaft map id r
in_shaft_of map id (Lift lo hi rise speed) lift thing r low at is its same =
    let kept = same_Some _ lift its in
    let rise_is : rise ≡ lift.rise = ap (λ (l : lifts.Lift). l.rise) kept in
    let low_is : lo.z ≡ lift.low = ap (λ (l : lifts.Lift). l.low) kept in
    let x : r.origin.x ≡ lo.x = same.x ∙ ap (λ (t : Rec). t.origin.x) is in
    let y : r.origin.y ≡ lo.y = same.y ∙ ap (λ (t : Rec). t.origin.y) is in
    let mins = same.mins ∙ ap (λ (t : Rec). t.mins) is in
    let maxs = same.maxs ∙ ap (λ (t : Rec). t.maxs) is in
    let from : lo.z ≤ℤ r.origin.z = let below = same.low in omega (arith, ints, below, low_is) in
    let to : r.origin.z ≤ℤ (lo.z +ℤ rise) = let above = same.high in omega (arith, ints, above, low_is, rise_is) in
    record {
      line = Lift lo hi rise speed;
      own = shaft lo hi rise;
      low = low;
      at = at;
      is = refl;
      inside = all_three
          (on_level lo.x hi.x r.origin.x r.mins.x r.maxs.x x (ap (λ (v : Vec3). v.x) mins) (ap (λ (v : Vec3). v.x) maxs))
          (on_level lo.y hi.y r.origin.y r.mins.y r.maxs.y y (ap (λ (v : Vec3). v.y) mins) (ap (λ (v : Vec3). v.y) maxs))
          (on_way lo.z hi.z rise r.origin.z r.mins.z r.maxs.z from to (ap (λ (v : Vec3). v.z) mins) (ap (λ (v : Vec3). v.z) maxs));
    }
in_shaft_of map id line lift thing r low at is its same = cc

in_shaft : (map : MapView) (id : ℕ) (lift : lifts.Lift) (r : Rec) → IsMap map → lift_of map id ≡ Some lift → IsLiftAt map id lift r → IsInShaft map id r
in_shaft map id lift r is_map has is =
    let found = found-in map id is.thing is_map is.found in
    in_shaft_of map id found.line lift is.thing r found.low found.at found.is (sym (lift-of-line map id found.line found.low found.at) ∙ has) is.same

-- the bodies of two lifts don't overlap
pub lifts_apart : (map : MapView) (i j : ℕ) (lift other : lifts.Lift) (r s : Rec) → IsMap map → lift_of map i ≡ Some lift → lift_of map j ≡ Some other → IsLiftAt map i lift r
    → IsLiftAt map j other s → i ≢ j → AreApart (body_of r) (body_of s)
lifts_apart map i j lift other r s is_map has_i has_j is_i is_j differ =
    let a = in_shaft map i lift r is_map has_i is_i in
    let b = in_shaft map j other s is_map has_j is_j in
    elim (cases_lt i j) [
      | inl before ↦
          let low = a.low in
          apart_inside a.own b.own (body_of r) (body_of s) a.inside b.inside
          (shafts_apart map.things (i - 64) (j - 64) a.line b.line a.own b.own is_map.shafts_apart a.at b.at (omega (arith, before, low)) a.is b.is)
      | inr after ↦
          let low = b.low in
          overlaps-flips (body_of r) (body_of s)
          ∙ apart_inside b.own a.own (body_of s) (body_of r) b.inside a.inside
          (shafts_apart map.things (j - 64) (i - 64) b.line a.line b.own a.own is_map.shafts_apart b.at a.at (omega (arith, after, low, differ)) b.is a.is)
    ]
