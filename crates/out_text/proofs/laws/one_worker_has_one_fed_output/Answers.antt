use Rattle.out_text.proofs.FedOutputs.{one_fed_output}
use Rattle.out_text.proofs.laws.one_worker_has_one_fed_output.Goals as goal

pub returns : goal.returns
returns c = one_fed_output
