use Rattle.std.proofs.Common.{◌≡◌, take}
use Rattle.std.specs.List.{list_any}
use Rattle.demo_walk.specs.Places.{is_by_spawn}
use Rattle.demo_walk.proofs.places.meets_spawn.Given as goal

-- whether a player at one of the spawns so far overlaps the body
abbrev pub invariant-loop-index : goal.invariant-loop-index
invariant-loop-index l = l.meets ≡ list_any (is_by_spawn l.body) (take l.index l.map.spawns)
