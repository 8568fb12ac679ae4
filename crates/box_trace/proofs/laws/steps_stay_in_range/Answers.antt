use Rattle.box_trace.proofs.Ranges.{steps_stay_in_range}
use Rattle.box_trace.proofs.laws.steps_stay_in_range.Goals as goal

pub returns : goal.returns
returns c = steps_stay_in_range
