use Rattle.box_trace.proofs.HitAxes.{first_axis_is_named}
use Rattle.box_trace.proofs.laws.first_axis_is_named.Goals as goal

pub returns : goal.returns
returns c = first_axis_is_named
