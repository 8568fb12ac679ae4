use Rattle.std.proofs.Common.{◌∙◌}
use Rattle.shared_moves.proofs.EndedPasses.{first_taken, next_ended}
use Rattle.shared_moves.proofs.shared.end_all.Goals as goal

pub loop-pass-init : goal.loop-pass-init
loop-pass-init g c =
    let here = c.into_parts-first.ensures in (
      tt,
      tt,
      first_taken _ c.args.words.now.table c.args.passes.items _ c.remove.result _ _ _ _ _ _ _ c.requires.own c.requires.rest c.requires.numbers c.requires.count.0 c.remove.ensures.value (c.into_iter-pass-iterator.ensures.into_iter_gives.0 ∙ c.remove.ensures.items) here.hand.0 here.hand.1 here.log c.requires.logs c.push.ensures.room c.push.ensures.pushed,
    )

pub loop-pass-preserved : goal.loop-pass-preserved
loop-pass-preserved g c =
    let here = c.into_parts-hand.ensures in (
      tt,
      tt,
      next_ended c.args.words.now.table c.args.passes.items _ _ c.in-Some.pass _ _ _ _ _ _ _ _ _ c.loop-pass.invariant.2 c.requires.count.1 c.in-Some.ensures.steps.0 here.hand.1 here.log c.end.ensures.table c.end.ensures.sight c.push-in-loop-pass.ensures.room c.push-in-loop-pass.ensures.pushed,
    )
