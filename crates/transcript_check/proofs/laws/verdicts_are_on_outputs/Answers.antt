use Rattle.transcript_check.proofs.VerdictsOnOutputs.{verdicts_are_on_outputs}
use Rattle.transcript_check.proofs.laws.verdicts_are_on_outputs.Goals as goal

pub returns : goal.returns
returns c = verdicts_are_on_outputs
