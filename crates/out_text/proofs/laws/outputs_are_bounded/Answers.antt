use Rattle.out_text.proofs.Bounded.{are_bounded}
use Rattle.out_text.proofs.laws.outputs_are_bounded.Goals as goal

pub returns : goal.returns
returns c = are_bounded
