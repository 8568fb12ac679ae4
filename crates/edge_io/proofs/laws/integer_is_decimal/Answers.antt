use Rattle.std.proofs.Common.{ap, ◌∙◌, arith}
use Rattle.edge_io.specs.Numbers.{integer_up_to}
use Rattle.edge_io.proofs.Decimals.{integer-spelled, integer-decimal}
use Rattle.edge_io.proofs.laws.integer_is_decimal.Goals as goal

pub returns : goal.returns
returns c = λ limit z field low. (integer-spelled limit z field low, λ h. ap (integer_up_to limit) h.0 ∙ integer-decimal limit z (omega (arith, low, h.1)) h.1)
