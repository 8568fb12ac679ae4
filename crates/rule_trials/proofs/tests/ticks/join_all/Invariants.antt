use Rattle.arena_map.specs.Validity.{IsValidWorld}
use Rattle.rule_trials.proofs.tests.ticks.join_all.Given as goal

-- the world stays valid
abbrev pub invariant-loop-slot : goal.invariant-loop-slot
invariant-loop-slot l = IsValidWorld l.map l.world.records
