use Rattle.std.proofs.Common.{◌≡◌}
use Rattle.demo_make.specs.Remaining.{remaining_events}
use Rattle.demo_make.proofs.generator.Generator.pass_lost.Given as goal

-- what was lost so far is in no event
abbrev pub invariant-loop-self : goal.invariant-loop-self
invariant-loop-self l = record {
  same : remaining_events l.fn.self ≡ remaining_events l.self;
  no_join : l.self.joins_left ≡ 0;
}

abbrev pub decreases-loop-self : goal.decreases-loop-self
decreases-loop-self l = l.self.moves_left
