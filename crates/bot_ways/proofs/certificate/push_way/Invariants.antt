use Rattle.std.proofs.Common.{◌≡◌, ◌++◌, map, flat_map, take, decimal}
use Rattle.edge_io.specs.Fields.{field_text}
use Rattle.bot_ways.proofs.certificate.push_way.Given as goal

-- the text has the waypoints so far
abbrev pub invariant-loop-waypoint : goal.invariant-loop-waypoint
invariant-loop-waypoint l = l.text ≡ l.initial.text ++ flat_map field_text (map decimal (take l.waypoint-index l.way))
