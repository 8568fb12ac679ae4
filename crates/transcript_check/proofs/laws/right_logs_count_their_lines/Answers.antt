use Rattle.transcript_check.proofs.LogOutputs.{right_logs_count}
use Rattle.transcript_check.proofs.laws.right_logs_count_their_lines.Goals as goal

pub returns : goal.returns
returns c = right_logs_count
