use Rattle.std.proofs.Common.{◌-◌, length}
use Rattle.bot_ways.proofs.Searching.{IsSearch, tried}
use Rattle.bot_ways.proofs.search.least_lengths.Given as goal

abbrev pub invariant-loop-nearest : goal.invariant-loop-nearest
invariant-loop-nearest l = IsSearch l.map l.least l.settled.items

-- the waypoints that haven't been tried
abbrev pub decreases-loop-nearest : goal.decreases-loop-nearest
decreases-loop-nearest l = length l.settled.items - tried l.settled.items
