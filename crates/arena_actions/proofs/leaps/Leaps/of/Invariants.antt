use Rattle.std.proofs.Common.{◌≡◌, take}
use Rattle.std.specs.Prelude.{filter_map}
use Rattle.arena_actions.specs.Leaps.{leap_of}
use Rattle.arena_actions.proofs.leaps.Leaps.of.Given as goal

-- the leaps of the things so far
abbrev pub invariant-loop-thing : goal.invariant-loop-thing
invariant-loop-thing l = l.leaps ≡ filter_map (leap_of l.map) (take l.thing-index l.thing-items)
