use Rattle.transcript_check.proofs.LogOutputs.{right_logs}
use Rattle.transcript_check.proofs.laws.right_logs_are_outputs.Goals as goal

pub returns : goal.returns
returns c = right_logs
