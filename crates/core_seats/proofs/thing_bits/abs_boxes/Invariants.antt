use Rattle.std.proofs.Common.{◌≡◌, map, take}
use Rattle.entity_recs.specs.Bodies.{abs_of}
use Rattle.core_seats.proofs.thing_bits.abs_boxes.Given as goal

-- those of the records so far
abbrev pub invariant-loop-r : goal.invariant-loop-r
invariant-loop-r l = l.boxes.items ≡ map abs_of (take l.r-index l.records)
