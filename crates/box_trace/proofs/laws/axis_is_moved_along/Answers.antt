use Rattle.box_trace.proofs.HitAxes.{axis_is_moved_along}
use Rattle.box_trace.proofs.laws.axis_is_moved_along.Goals as goal

pub returns : goal.returns
returns c = axis_is_moved_along
