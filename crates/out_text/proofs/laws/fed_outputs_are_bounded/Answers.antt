use Rattle.out_text.proofs.FedBounded.{fed_are_bounded}
use Rattle.out_text.proofs.laws.fed_outputs_are_bounded.Goals as goal

pub returns : goal.returns
returns c = fed_are_bounded
