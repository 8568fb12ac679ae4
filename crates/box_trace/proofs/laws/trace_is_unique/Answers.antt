use Rattle.box_trace.proofs.Traces.{trace_is_unique}
use Rattle.box_trace.proofs.laws.trace_is_unique.Goals as goal

pub returns : goal.returns
returns c = trace_is_unique
