use Rattle.std.proofs.Common.{rules, FitsSigned}
use Rattle.std.specs.Int.{w32}
use Rattle.areanode.proofs.Parts.{part_above_is_box, set_at}
use Rattle.areanode.proofs.cut.part_above.Goals as goal

pub from_corners-requires : goal.from_corners-requires
from_corners-requires c =
    let fits : FitsSigned w32 c.cut_of-cut.result.dist = search rules in
    let low = set_at _ _ _ _ _ fits c.set_on.ensures c.cut_of-cut.ensures c.lo.ensures.value in
    rw (low, c.hi.ensures.value) (part_above_is_box c.args.area.now c.hi.ensures.is_box)
