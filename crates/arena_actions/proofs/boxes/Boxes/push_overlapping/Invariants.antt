use Rattle.std.proofs.Common.{◌≡◌, ◌+◌, ◌-◌, ◌≤◌, ◌++◌, length, take, filter}
use Rattle.arena_geo.specs.Boxes.{overlaps}
use Rattle.arena_actions.proofs.boxes.Boxes.push_overlapping.Given as goal

-- those of the solids before this place
abbrev pub invariant-loop-found : goal.invariant-loop-found
invariant-loop-found g l = record {
  boxes : l.self ≡ l.fn.self ++ filter (overlaps l.place) (take l.at l.solids);
  few : length l.self ≤ length l.fn.self + l.at;
  within : l.at ≤ length l.solids;
}

abbrev pub decreases-loop-found : goal.decreases-loop-found
decreases-loop-found g l = length l.solids - l.at
