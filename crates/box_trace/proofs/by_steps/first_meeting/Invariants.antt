use Rattle.std.proofs.Common.{◌++◌}
use Rattle.box_trace.specs.Traces.{IsFree}
use Rattle.box_trace.proofs.by_steps.first_meeting.Given as goal

abbrev pub invariant-loop-steps : goal.invariant-loop-steps
invariant-loop-steps l = IsFree l.way.body l.way.d (l.fixed ++ l.moving) l.steps
