use Rattle.std.proofs.Common.{◌≡◌, drop}
use Rattle.core_steps.specs.Reads.{state_at}
use Rattle.core_seats.proofs.reads.thing_state.Given as goal

abbrev pub invariant-loop-read : goal.invariant-loop-read
invariant-loop-read l = state_at l.states l.id ≡ state_at (drop l.read-index l.states) l.id
