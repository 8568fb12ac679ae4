use Rattle.out_text.proofs.FedOutputs.{fed_are_outputs}
use Rattle.out_text.proofs.laws.fed_outputs_are_outputs.Goals as goal

pub returns : goal.returns
returns c = fed_are_outputs
