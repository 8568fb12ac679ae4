use Rattle.transcript_check.proofs.OneLog.{one_log_verdict}
use Rattle.transcript_check.proofs.laws.log_verdicts_are_one.Goals as goal

pub returns : goal.returns
returns c = one_log_verdict
