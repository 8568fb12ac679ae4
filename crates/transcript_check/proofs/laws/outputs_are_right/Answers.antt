use Rattle.transcript_check.proofs.OutputsChecked.{outputs_right}
use Rattle.transcript_check.proofs.laws.outputs_are_right.Goals as goal

pub returns : goal.returns
returns c = outputs_right
