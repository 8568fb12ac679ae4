use Rattle.std.proofs.Common.{rules, FitsSigned}
use Rattle.std.specs.Int.{w32}
use Rattle.areanode.proofs.Parts.{part_below_is_box, set_at}
use Rattle.areanode.proofs.cut.part_below.Goals as goal

pub from_corners-requires : goal.from_corners-requires
from_corners-requires c =
    let fits : FitsSigned w32 c.cut_of-cut.result.dist = search rules in
    let high = set_at _ _ _ _ _ fits c.set_on.ensures c.cut_of-cut.ensures c.hi.ensures.value in
    rw (c.lo.ensures.value, high) (part_below_is_box c.args.area.now c.hi.ensures.is_box)
