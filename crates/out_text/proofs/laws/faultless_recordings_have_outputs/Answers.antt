use Rattle.out_text.proofs.Outputs.{faultless_output}
use Rattle.out_text.proofs.laws.faultless_recordings_have_outputs.Goals as goal

pub returns : goal.returns
returns c = faultless_output
