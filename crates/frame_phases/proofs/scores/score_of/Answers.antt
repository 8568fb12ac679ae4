use Rattle.std.proofs.Common.{◌≡◌, arith}
use Rattle.frame_phases.proofs.Scoring.{score-next, score-all}
use Rattle.frame_phases.proofs.scores.score_of.Goals as goal

pub loop-slot-preserved : goal.loop-slot-preserved
loop-slot-preserved c = record {
  sum = score-next c.args.world.now.records c.loop-slot.slot c.loop-slot.score c.score_in_slot-score.result c.loop-slot.invariant.sum c.score_in_slot-score.ensures.score;
  bound = omega (arith, c.loop-slot.invariant.bound, c.score_in_slot-score.ensures.bound);
  linked = λ _. c.score_in_slot-score.ensures.linked;
}

pub returns : goal.returns
returns c =
    let all : c.loop-slot.slot ≡ 64 = omega arith in
    score-all c.args.world.now.records c.loop-slot.slot c.loop-slot.score (c.loop-slot.invariant.linked (omega (arith, all))).entries all c.loop-slot.invariant.sum
