use Rattle.box_trace.proofs.Insides.{walls_leave_inside_free}
use Rattle.box_trace.proofs.laws.walls_leave_inside_free.Goals as goal

pub returns : goal.returns
returns c = walls_leave_inside_free
