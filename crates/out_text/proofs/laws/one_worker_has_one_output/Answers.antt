use Rattle.out_text.proofs.Outputs.{one_output}
use Rattle.out_text.proofs.laws.one_worker_has_one_output.Goals as goal

pub returns : goal.returns
returns c = one_output
