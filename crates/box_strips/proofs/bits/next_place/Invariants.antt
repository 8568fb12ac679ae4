use Rattle.std.proofs.Common.{◌-◌}
use Rattle.box_strips.proofs.PlaceBits.{NoneYet}
use Rattle.box_strips.proofs.bits.next_place.Given as goal

abbrev pub invariant-loop-at : goal.invariant-loop-at
invariant-loop-at l = NoneYet l.bits l.from l.at

abbrev pub decreases-loop-at : goal.decreases-loop-at
decreases-loop-at l = l.to - l.at
