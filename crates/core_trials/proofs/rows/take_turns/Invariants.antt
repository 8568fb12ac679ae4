use Rattle.std.proofs.Common.{◌≡◌, length}
use Rattle.core_trials.proofs.rows.take_turns.Given as goal

abbrev pub invariant-loop : goal.invariant-loop
invariant-loop g l = length l.core.seats ≡ length l.initial.core.seats
