use Rattle.std.proofs.Common.{◌≡◌, ◌∙◌, ap, pos}
use Rattle.std.specs.Prelude.{FitsSigned, int_div}
use Rattle.std.specs.Int.{w32, w64, cast_signed, cast_unsigned}
use Rattle.std.proofs.lemmas.Int.{to_z-of_z}
use Rattle.speed_rules.specs.Measures.{scaled_part}
use Rattle.speed_rules.proofs.Shares.{scaled_le_by, scaled_fits}
use Rattle.speed_rules.proofs.arithmetic.scale.Goals as goal

-- what the two calls gave
share : (c : goal.After-quotient) → c.quotient.result ≡ scaled_part c.args.part c.args.by c.args.whole
share c =
    let part_fits : FitsSigned w32 c.args.part = c.ranges.part in
    let by_fits : FitsSigned w32 c.args.by = c.ranges.by in
    let product_fits : FitsSigned w64 c.product.result = record { sfits = c.product.type_inv } in
    let product = simp to_z-of_z at c.product.ensures in
    let quotient = simp to_z-of_z at c.quotient.ensures.value in
    quotient ∙ ap (λ z. int_div z (pos c.args.whole)) product

fits : (c : goal.After-quotient) → FitsSigned w32 (scaled_part c.args.part c.args.by c.args.whole)
fits c = scaled_fits c.args.part c.args.by c.args.whole c.requires.some c.requires.is_part c.requires.positive c.ranges.by

-- the value of the cast
cast : (c : goal.After-quotient) → cast_signed w32 (cast_unsigned w32 (cast_signed w64 (cast_unsigned w64 c.quotient.result))) ≡ scaled_part c.args.part c.args.by c.args.whole
cast c =
    let quotient_fits : FitsSigned w64 c.quotient.result = record { sfits = c.quotient.type_inv } in
    rw (to_z-of_z w64 c.quotient.result quotient_fits, share c) (to_z-of_z w32 _ (fits c))

pub overflow_cast-result : goal.overflow_cast-result
overflow_cast-result c =
    let quotient_fits : FitsSigned w64 c.quotient.result = record { sfits = c.quotient.type_inv } in
    rw (to_z-of_z w64 c.quotient.result quotient_fits, share c) (fits c)

pub returns-clause-value : goal.returns-clause-value
returns-clause-value c = cast c

pub returns-clause-bound : goal.returns-clause-bound
returns-clause-bound c = rw (cast c) (scaled_le_by c.args.part c.args.by c.args.whole c.requires.some c.requires.is_part)
