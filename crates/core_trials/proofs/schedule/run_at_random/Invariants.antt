use Rattle.std.proofs.Common.{◌≡◌, ◌≤◌, length}
use Rattle.core_trials.proofs.schedule.run_at_random.Given as goal

abbrev pub invariant-loop : goal.invariant-loop
invariant-loop g l = record { seats : length l.core.seats ≡ 4; idle : l.idle ≤ 100 }
