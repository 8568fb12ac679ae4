-- Overlaps: either way round, and of a box that moves by 0.
use Rattle.std.proofs.Common.{◌≡◌, Bool, true, false, ◌&&◌, ℤ, pos, ◌+ℤ◌, refl, arith}
use Rattle.std.specs.Prelude.{int_lt}
use Rattle.std.proofs.Math.Bool.{and_comm}
use Rattle.std.proofs.lemmas.Int.{ints}
use Rattle.arena_geo.specs.Bounds.{Bounds}
use Rattle.arena_geo.specs.Boxes.{overlaps_on, overlaps}

pub overlaps-flips : (a b : Bounds) → overlaps a b ≡ overlaps b a
overlaps-flips a b =
    let x = and_comm (int_lt a.lo.x b.hi.x) (int_lt b.lo.x a.hi.x) in
    let y = and_comm (int_lt a.lo.y b.hi.y) (int_lt b.lo.y a.hi.y) in
    let z = and_comm (int_lt a.lo.z b.hi.z) (int_lt b.lo.z a.hi.z) in
    rw (x, y, z) refl

-- moving by 0 changes nothing
pub overlaps_on-stays : (lo hi l h : ℤ) → overlaps_on (lo +ℤ pos 0) (hi +ℤ pos 0) l h ≡ overlaps_on lo hi l h
overlaps_on-stays lo hi l h =
    let low : lo +ℤ pos 0 ≡ lo = omega (arith, ints) in
    let high : hi +ℤ pos 0 ≡ hi = omega (arith, ints) in
    rw (low, high) refl

-- where two axes overlap and the whole doesn't, the third doesn't
pub third_fails : (a b c : Bool) → (a && b && c) ≡ false → a ≡ true → b ≡ true → c ≡ false
third_fails true true c h p q = h
third_fails true false c h p q = cc
third_fails false b c h p q = cc
