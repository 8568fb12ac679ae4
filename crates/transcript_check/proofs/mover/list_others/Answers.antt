use Rattle.std.proofs.Common.{ℕ, List, length, ap, arith}
use Rattle.transcript_check.proofs.Others.{others-next, others-few, others-all, ids_few}
use Rattle.transcript_check.proofs.mover.list_others.Goals as goal

pub put_other-requires : goal.put_other-requires
put_other-requires c =
    let few = others-few c.args.world.now c.args.slot c.loop-id.id-index c.loop-id.others c.loop-id.invariant.so_far in
    let ids = ids_few c.args.world.now c.live_ids-id-items.ensures.linked in
    let same = ap (λ (l : List ℕ). length l) c.live_ids-id-items.ensures.ids in
    omega (arith, few, ids, same, c.loop-id-test.true)

pub loop-id-preserved : goal.loop-id-preserved
loop-id-preserved c = record {
  so_far = others-next c.args.world.now c.args.slot c.live_ids-id-items.result.now c.loop-id.id-index c.loop-id.others c.put_other.new.others c.live_ids-id-items.ensures.ids c.loop-id-test.true c.loop-id.invariant.so_far c.put_other.ensures.put;
}

pub returns-clause-others : goal.returns-clause-others
returns-clause-others c =
    others-all c.args.world.now c.args.slot c.live_ids-id-items.result.now c.loop-id.id-index c.loop-id.others c.live_ids-id-items.ensures.linked c.live_ids-id-items.ensures.ids c.loop-id-test.false c.loop-id.invariant.so_far
