use Rattle.std.proofs.Common.{◌≡◌, ◌+◌, ◌≤◌, ◌++◌, length, take, filter}
use Rattle.arena_geo.specs.Boxes.{overlaps}
use Rattle.trigger_rules.specs.Touching.{bodies_of_solids}
use Rattle.arena_actions.proofs.boxes.Boxes.push_bodies.Given as goal

-- those of the records so far
abbrev pub invariant-loop-r : goal.invariant-loop-r
invariant-loop-r g l = record {
  boxes : l.self ≡ l.fn.self ++ filter (overlaps l.place) (bodies_of_solids (take l.r-index l.near));
  few : length l.self ≤ length l.fn.self + l.r-index;
}
