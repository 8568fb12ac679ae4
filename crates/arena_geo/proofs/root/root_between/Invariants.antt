use Rattle.std.proofs.Common.{◌-◌, ◌*◌, ◌≤◌, ◌<◌, ◌^◌}
use Rattle.arena_geo.proofs.root.root_between.Given as goal

abbrev pub invariant-loop-low : goal.invariant-loop-low
invariant-loop-low l = (l.low * l.low ≤ l.n) × (l.n < l.high * l.high) × (l.high ≤ 2 ^ 32)

abbrev pub decreases-loop-low : goal.decreases-loop-low
decreases-loop-low l = l.high - l.low
