use Rattle.std.proofs.Common.{ℕ, Option, Some, None}
use Rattle.bot_ways.specs.Walks.{length_to}
use Rattle.bot_ways.proofs.WaysBack.{IsWayBack}
use Rattle.bot_ways.proofs.plan.way_back.Given as goal

abbrev pub invariant-loop-before : goal.invariant-loop-before
invariant-loop-before l = IsWayBack l.map l.least l.target l.first l.way

abbrev pub number_of : Option ℕ → ℕ
number_of None = 0
number_of (Some n) = n

-- the length of the way that is left
abbrev pub decreases-loop-before : goal.decreases-loop-before
decreases-loop-before l = number_of (length_to l.least l.first)
