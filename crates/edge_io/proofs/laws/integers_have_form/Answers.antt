use Rattle.edge_io.proofs.Decimals.{integers_have_form}
use Rattle.edge_io.proofs.laws.integers_have_form.Goals as goal

pub returns : goal.returns
returns c = integers_have_form
