use Rattle.bot_ways.specs.Search.{IsNearest}
use Rattle.bot_ways.proofs.search.nearest_open.Given as goal

-- the nearest of the waypoints so far
abbrev pub invariant-loop-waypoint : goal.invariant-loop-waypoint
invariant-loop-waypoint l = IsNearest l.waypoint l.least l.settled l.nearest
