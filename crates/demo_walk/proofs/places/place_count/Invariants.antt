use Rattle.std.proofs.Common.{◌≡◌, ◌≤◌}
use Rattle.demo_walk.specs.Places.{is_place}
use Rattle.demo_walk.proofs.PlaceParts.{passing}
use Rattle.demo_walk.proofs.places.place_count.Given as goal

-- how many of the spawns so far are places
abbrev pub invariant-loop-index : goal.invariant-loop-index
invariant-loop-index l = record { value : l.places ≡ passing (is_place l.map) l.index; few : l.places ≤ l.index }
