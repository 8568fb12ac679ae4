use Rattle.transcript_check.proofs.OutputsChecked.{right_outputs}
use Rattle.transcript_check.proofs.laws.right_ones_are_outputs.Goals as goal

pub returns : goal.returns
returns c = right_outputs
