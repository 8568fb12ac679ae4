use Rattle.out_text.proofs.OneTaker.{one_taker}
use Rattle.out_text.proofs.laws.outputs_have_one_taker.Goals as goal

pub returns : goal.returns
returns c = one_taker
