use Rattle.ruled_words.specs.Passes.{IsOwn}
use Rattle.move_phase_trials.proofs.tests.moving.shooters.commit.Given as goal

abbrev pub invariant-loop : goal.invariant-loop
invariant-loop g l = IsOwn g.A.Action.meaning l.table l.pass
