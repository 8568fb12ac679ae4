use Rattle.std.proofs.Common.{◌≡◌, pos, ap, ◌∙◌}
use Rattle.std.specs.Prelude.{FitsSigned, int_div}
use Rattle.std.specs.Int.{w16, w32, w64}
use Rattle.std.proofs.lemmas.Int.{to_z-of_z}
use Rattle.bot_ways.specs.Moves.{wish_along}
use Rattle.bot_ways.proofs.Wishes.{wish_fits}
use Rattle.bot_ways.proofs.moves.wish.Goals as goal

-- what the two calls gave
share : (c : goal.After-quotient) → c.quotient.result ≡ wish_along c.args.part c.args.whole
share c =
    let part_fits : FitsSigned w32 c.args.part = c.ranges.part in
    let product_fits : FitsSigned w64 c.product.result = record { sfits = c.product.type_inv } in
    let product = simp to_z-of_z at c.product.ensures in
    let quotient = simp to_z-of_z at c.quotient.ensures in
    quotient ∙ ap (λ z. int_div z (pos c.args.whole)) product

pub overflow_cast-result : goal.overflow_cast-result
overflow_cast-result c =
    let quotient_fits : FitsSigned w64 c.quotient.result = record { sfits = c.quotient.type_inv } in
    rw (to_z-of_z w64 c.quotient.result quotient_fits, share c) (wish_fits c.args.part c.args.whole c.requires.some c.requires.part)

pub returns : goal.returns
returns c =
    let quotient_fits : FitsSigned w64 c.quotient.result = record { sfits = c.quotient.type_inv } in
    rw (to_z-of_z w64 c.quotient.result quotient_fits, share c) (to_z-of_z w16 _ (wish_fits c.args.part c.args.whole c.requires.some c.requires.part))
