use Rattle.transcript_check.proofs.LogOutputs.{outputs_right_logs}
use Rattle.transcript_check.proofs.laws.outputs_are_right_logs.Goals as goal

pub returns : goal.returns
returns c = outputs_right_logs
