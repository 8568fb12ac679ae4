use Rattle.std.proofs.Common.{arith}
use Rattle.entity_recs.specs.Worlds.{nobody}
use Rattle.core_trials.proofs.Calls.{rising_more}
use Rattle.core_trials.proofs.plain.are_rising.Goals as goal

pub loop-i-preserved : goal.loop-i-preserved
loop-i-preserved c = record {
  least = omega arith;
  rising = rising_more c.args.records.now c.loop-i.i nobody c.loop-i.invariant.least c.loop-i-test.true c.loop-i.invariant.rising c.if-records-i.false;
}
