use Rattle.arena_map.specs.Validity.{IsValidWorld}
use Rattle.rule_trials.proofs.tests.ticks.run.Given as goal

-- the world stays valid
abbrev pub invariant-loop-frame : goal.invariant-loop-frame
invariant-loop-frame l = IsValidWorld l.map l.world.records
