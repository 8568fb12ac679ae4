use Rattle.box_trace.proofs.Insides.{trace_stays_inside}
use Rattle.box_trace.proofs.laws.trace_stays_inside.Goals as goal

pub returns : goal.returns
returns c = trace_stays_inside
