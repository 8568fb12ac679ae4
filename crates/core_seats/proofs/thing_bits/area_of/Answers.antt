use Rattle.std.proofs.Common.{◌≡◌, ◌+◌, true, List, take, sym, subst, arith}
use Rattle.std.specs.Prelude.{All}
use Rattle.std.proofs.lemmas.List.{take_all}
use Rattle.arena_geo.specs.Bounds.{Bounds}
use Rattle.arena_geo.specs.Boxes.{contains}
use Rattle.core_seats.proofs.Around.{one_more_inside}
use Rattle.core_seats.proofs.thing_bits.area_of.Goals as goal

pub loop-one-preserved : goal.loop-one-preserved
loop-one-preserved c =
    subst (λ (area : Bounds). All (λ b. contains area b ≡ true) (take (c.loop-one.one-index + 1) c.args.boxes.now)) (sym c.hull-area.ensures)
    (one_more_inside c.args.boxes.now c.loop-one.one-index c.loop-one.area c.one-item.result c.loop-one-test.true c.one-item.is c.loop-one.invariant)

pub returns : goal.returns
returns c =
    let boxes = c.args.boxes.now in
    subst (λ (bs : List Bounds). All (λ b. contains c.loop-one.area b ≡ true) bs) (take_all c.loop-one.one-index boxes (omega (arith, c.loop-one-test.false))) c.loop-one.invariant
