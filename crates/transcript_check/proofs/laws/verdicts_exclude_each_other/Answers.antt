use Rattle.transcript_check.proofs.OutputsChecked.{exclude}
use Rattle.transcript_check.proofs.laws.verdicts_exclude_each_other.Goals as goal

pub returns : goal.returns
returns c = exclude
