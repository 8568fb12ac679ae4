use Rattle.std.proofs.Common.{◌≡◌, ◌+ℤ◌, ◌*ℤ◌, ◌∙◌, arith, rules}
use Rattle.std.specs.Prelude.{FitsSigned}
use Rattle.std.specs.Int.{w32, w64, cast_signed, cast_unsigned}
use Rattle.std.proofs.lemmas.Int.{to_z-of_z, fits_signed_from_abs}
use Rattle.speed_rules.specs.Measures.{part_along}
use Rattle.speed_rules.proofs.Shares.{dot_is_small, quotient_le}
use Rattle.speed_rules.proofs.Typed.{dot_is}
use Rattle.speed_rules.proofs.acceleration.along.Goals as goal

pub overflow_add-product : goal.overflow_add-product
overflow_add-product c =
    let x_fits : FitsSigned w32 c.args.vel.x = search rules in
    let y_fits : FitsSigned w32 c.args.vel.y = search rules in
    let dot = dot_is c.args.vel.x c.args.x c.args.vel.y c.args.y _ _ x_fits c.ranges.x y_fits c.ranges.y (record { sfits = c.product.type_inv }) (record { sfits = c.product-2.type_inv }) c.product.ensures c.product-2.ensures in
    rw dot (fits_signed_from_abs w64 _ (omega (arith, dot_is_small c.args.vel.x c.args.x c.args.vel.y c.args.y c.requires.near.x c.requires.near.y c.ranges.x c.ranges.y)))

-- what the call gave
part : (c : goal.After-quotient) → cast_signed w64 (cast_unsigned w64 c.quotient.result) ≡ part_along c.args.vel c.args.x c.args.y c.args.len
part c =
    let x_fits : FitsSigned w32 c.args.vel.x = search rules in
    let y_fits : FitsSigned w32 c.args.vel.y = search rules in
    let quotient_fits : FitsSigned w64 c.quotient.result = record { sfits = c.quotient.type_inv } in
    let small = dot_is_small c.args.vel.x c.args.x c.args.vel.y c.args.y c.requires.near.x c.requires.near.y c.ranges.x c.ranges.y in
    let fits : FitsSigned w64 (c.args.vel.x *ℤ c.args.x +ℤ c.args.vel.y *ℤ c.args.y) = fits_signed_from_abs w64 _ (omega (arith, small)) in
    let dot = dot_is c.args.vel.x c.args.x c.args.vel.y c.args.y _ _ x_fits c.ranges.x y_fits c.ranges.y (record { sfits = c.product.type_inv }) (record { sfits = c.product-2.type_inv }) c.product.ensures c.product-2.ensures in
    to_z-of_z w64 c.quotient.result quotient_fits ∙ (rw (dot, to_z-of_z w64 _ fits) at c.quotient.ensures.value)

pub returns-clause-value : goal.returns-clause-value
returns-clause-value c = part c

pub returns-clause-bound : goal.returns-clause-bound
returns-clause-bound c =
    let small = dot_is_small c.args.vel.x c.args.x c.args.vel.y c.args.y c.requires.near.x c.requires.near.y c.ranges.x c.ranges.y in
    rw (part c) (omega (arith, small, quotient_le (c.args.vel.x *ℤ c.args.x +ℤ c.args.vel.y *ℤ c.args.y) c.args.len))
