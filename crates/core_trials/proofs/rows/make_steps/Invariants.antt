use Rattle.std.proofs.Common.{◌≡◌, length}
use Rattle.core_trials.specs.Hands.{HasOwnCommands}
use Rattle.core_trials.proofs.rows.make_steps.Given as goal

abbrev pub invariant-loop : goal.invariant-loop
invariant-loop g l = record {
  seats : length l.core.seats ≡ length l.initial.core.seats;
  own : HasOwnCommands l.initial.core → HasOwnCommands l.core;
}
