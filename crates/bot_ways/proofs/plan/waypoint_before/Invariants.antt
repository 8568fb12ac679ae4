use Rattle.std.proofs.Common.{ℕ, ◌<◌}
use Rattle.bot_ways.specs.Ways.{IsBefore}
use Rattle.bot_ways.proofs.plan.waypoint_before.Given as goal

-- none of the waypoints so far is before this one
abbrev pub invariant-loop-from : goal.invariant-loop-from
invariant-loop-from l = (u : ℕ) → u < l.from → IsBefore l.map l.least u l.waypoint → ⊥
