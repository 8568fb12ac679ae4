use Rattle.box_trace.proofs.Stops.{steps_are_free}
use Rattle.box_trace.proofs.laws.steps_are_free.Goals as goal

pub returns : goal.returns
returns c = steps_are_free
