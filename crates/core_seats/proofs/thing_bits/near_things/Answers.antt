use Rattle.std.proofs.lemmas.Bool.{false≢true}
use Rattle.core_seats.proofs.ThingPlaces.{one_box_more}
use Rattle.core_seats.proofs.thing_bits.near_things.Goals as goal

pub loop-one-init : goal.loop-one-init
loop-one-init c boxes is k d within h = absurd (false≢true h)

pub loop-one-preserved : goal.loop-one-preserved
loop-one-preserved c boxes is =
    one_box_more boxes c.boxes-boxes.result.now c.loop-one.one-index c.one-item.result c.loop-one.bits c.mark_near.new.bits c.loop-one-test.true c.one-item.is c.mark_near.ensures.kept
    (c.mark_near.ensures.marked boxes is) (c.loop-one.invariant boxes is)
