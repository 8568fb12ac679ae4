use Rattle.std.proofs.Common.{◌≡◌, take}
use Rattle.std.specs.List.{list_any}
use Rattle.arena_map.specs.Maps.{entities_of}
use Rattle.demo_walk.specs.Places.{is_by_lift}
use Rattle.demo_walk.proofs.places.meets_lift.Given as goal

-- whether one of the things so far is by the body
abbrev pub invariant-loop-place : goal.invariant-loop-place
invariant-loop-place l = l.meets ≡ list_any (is_by_lift l.body) (take l.place (entities_of l.map))
