use Rattle.transcript_check.proofs.OneEnd.{end_once}
use Rattle.transcript_check.proofs.laws.recordings_end_once.Goals as goal

pub returns : goal.returns
returns c = end_once
