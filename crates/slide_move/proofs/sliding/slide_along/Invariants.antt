use Rattle.std.proofs.Common.{◌≡◌, ◌-◌, ◌++◌}
use Rattle.arena_geo.specs.Boxes.{box_moved_by}
use Rattle.slide_move.proofs.Underway.{IsUnderway}
use Rattle.slide_move.proofs.sliding.slide_along.Given as goal

-- the legs so far and the slide of what is left are the slide of all, and the body is where they end
abbrev pub invariant-loop : goal.invariant-loop
invariant-loop l = record {
  underway : IsUnderway l.body l.fn.vel l.fn.way (l.fixed ++ l.moving) (4 - l.counter) l.slid l.left;
  at : l.here ≡ box_moved_by l.body l.slid.shift;
}
