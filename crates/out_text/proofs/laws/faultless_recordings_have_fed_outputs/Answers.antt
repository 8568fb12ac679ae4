use Rattle.out_text.proofs.FedOutputs.{faultless_fed_outputs}
use Rattle.out_text.proofs.laws.faultless_recordings_have_fed_outputs.Goals as goal

pub returns : goal.returns
returns c = faultless_fed_outputs
