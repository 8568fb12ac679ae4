use Rattle.std.proofs.Common.{List, take}
use Rattle.arena_geo.specs.Bounds.{Bounds}
use Rattle.box_strips.specs.Strips.{IsIndexOf}
use Rattle.core_seats.specs.ThingStrips.{MarksBoxes}
use Rattle.core_seats.proofs.thing_bits.near_things.Given as goal

abbrev pub invariant-loop-one : goal.invariant-loop-one
invariant-loop-one l = (boxes : List Bounds) → IsIndexOf l.index boxes → MarksBoxes boxes (take l.one-index l.boxes) l.bits
