-- Shares of a wish, and parts of a distance.
use Rattle.std.proofs.Common.{◌≡◌, ℕ, ◌*◌, ◌/◌, ◌<◌, ◌≤◌, ℤ, pos, ◌-ℤ◌, ◌*ℤ◌, ap, ◌∙◌, arith}
use Rattle.std.specs.Prelude.{unsigned_abs, FitsSigned}
use Rattle.std.specs.Int.{w16}
use Rattle.std.proofs.lemmas.Nat.{mul-le, div_below}
use Rattle.std.proofs.lemmas.Int.{unsigned_abs-mul, fits_signed_from_abs}
use Rattle.std.proofs.Math.Nat.{le-max_left, le-max_right}
use Rattle.arena_geo.specs.declared.vec3.Vec3.{Vec3}
use Rattle.arena_geo.proofs.Quotients.{abs-int_div}
use Rattle.bot_ways.specs.Edges.{distance}
use Rattle.bot_ways.specs.Moves.{wish_along}

-- a share of 320 is no more than that
pub wish_at_most : (part : ℤ) (whole : ℕ) → 1 ≤ whole → unsigned_abs part ≤ whole → unsigned_abs (wish_along part whole) ≤ 320
wish_at_most part whole some is_part =
    let size : unsigned_abs (wish_along part whole) ≡ unsigned_abs part * 320 / whole =
    abs-int_div (part *ℤ pos 320) whole ∙ ap (λ n. n / whole) (unsigned_abs-mul part (pos 320)) in
    let most : unsigned_abs part * 320 ≤ whole * 320 = mul-le (unsigned_abs part) 320 whole 320 is_part (omega arith) in
    let few : unsigned_abs part * 320 / whole < 321 = div_below (unsigned_abs part * 320) whole 321 some (omega arith) in
    omega (arith, size, few)

pub wish_fits : (part : ℤ) (whole : ℕ) → 1 ≤ whole → unsigned_abs part ≤ whole → FitsSigned w16 (wish_along part whole)
wish_fits part whole some is_part = fits_signed_from_abs w16 (wish_along part whole) (omega (arith, wish_at_most part whole some is_part))

-- ---- parts of a distance

pub part_x : (a b : Vec3) → unsigned_abs (b.x -ℤ a.x) ≤ distance a b
part_x a b = le-max_left (unsigned_abs (b.x -ℤ a.x)) (unsigned_abs (b.y -ℤ a.y))

pub part_y : (a b : Vec3) → unsigned_abs (b.y -ℤ a.y) ≤ distance a b
part_y a b = le-max_right (unsigned_abs (b.x -ℤ a.x)) (unsigned_abs (b.y -ℤ a.y))
