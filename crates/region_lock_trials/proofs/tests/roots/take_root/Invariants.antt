use Rattle.ruled_words.specs.Passes.{IsOwn}
use Rattle.region_lock_trials.proofs.tests.roots.take_root.Given as goal

abbrev pub invariant-loop : goal.invariant-loop
invariant-loop g l = IsOwn g.A.Action.meaning l.table l.pass
