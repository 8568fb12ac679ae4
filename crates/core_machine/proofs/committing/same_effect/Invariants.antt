use Rattle.std.proofs.Common.{◌≡◌, take}
use Rattle.core_machine.proofs.committing.same_effect.Given as goal

abbrev pub invariant-loop-state : goal.invariant-loop-state
invariant-loop-state l = l.states ≡ take l.state-index l.state-items
