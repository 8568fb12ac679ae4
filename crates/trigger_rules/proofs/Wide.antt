-- What is touched isn't far away on the axis x.
use Rattle.std.proofs.Common.{◌≡◌, ◌≤◌, ℤ, pos, ◌+ℤ◌, ◌-ℤ◌, unsigned_abs, Bool, true, false, ◌&&◌, not, refl, sym, ◌∙◌, arith}
use Rattle.std.proofs.lemmas.Int.{ints}
use Rattle.arena_geo.specs.Bounds.{Bounds}
use Rattle.arena_geo.specs.Boxes.{touches_on, touches}
use Rattle.arena_geo.proofs.Containment.{three_pass}
use Rattle.entity_recs.specs.declared.rec.Rec.{Rec}
use Rattle.entity_recs.specs.Kinds.{is_solid}
use Rattle.entity_recs.specs.Bodies.{body_of, growth_of, abs_of, is_touched}
use Rattle.entity_recs.proofs.Standing.{growth_is_small}

-- where two intervals touch after one grew by at most 3,840, they touch where the other grows by 3,840 instead
near_on : (from to lo hi by : ℤ) → unsigned_abs by ≤ 3840 → touches_on (from -ℤ by) (to +ℤ by) lo hi ≡ true
    → touches_on (lo -ℤ pos 3840) (hi +ℤ pos 3840) from to ≡ true
near_on from to lo hi by few touch = grind (arith, ints)

second : (a b : Bool) → (a && b) ≡ true → b ≡ true
second true b h = h
second false b h = cc

near_on_x : (abs : Bounds) (r : Rec) → is_touched abs r ≡ true
    → touches_on (abs.lo.x -ℤ pos 3840) (abs.hi.x +ℤ pos 3840) (body_of r).lo.x (body_of r).hi.x ≡ true
near_on_x abs r is =
    let axes = three_pass _ _ _ (second (not (is_solid r.kind)) (touches (abs_of r) abs) is) in
    near_on (body_of r).lo.x (body_of r).hi.x abs.lo.x abs.hi.x (growth_of r.kind).x (growth_is_small r.kind).near.x axes.x

-- what lies beyond the ends of a box on the axis x, each 3,840 farther out, isn't touched
pub far_is_untouched : (abs : Bounds) (low high : ℤ) (r : Rec) → low ≡ abs.lo.x -ℤ pos 3840 → high ≡ abs.hi.x +ℤ pos 3840
    → touches_on low high (body_of r).lo.x (body_of r).hi.x ≡ false → is_touched abs r ≡ false
far_is_untouched abs low high r low_is high_is far = by (is_touched abs r) refl
  where
    by : (b : Bool) → is_touched abs r ≡ b → b ≡ false
    by true is = sym (near_on_x abs r is) ∙ (rw (← low_is, ← high_is) far)
    by false is = refl
