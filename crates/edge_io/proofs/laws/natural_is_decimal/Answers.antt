use Rattle.std.proofs.Common.{ap, ◌∙◌, arith}
use Rattle.edge_io.specs.Numbers.{natural_up_to}
use Rattle.edge_io.proofs.Decimals.{natural-spelled, natural-decimal}
use Rattle.edge_io.proofs.laws.natural_is_decimal.Goals as goal

pub returns : goal.returns
returns c = λ limit n field low. (natural-spelled limit n field low, λ h. ap (natural_up_to limit) h.0 ∙ natural-decimal limit n (omega (arith, low, h.1)) h.1)
