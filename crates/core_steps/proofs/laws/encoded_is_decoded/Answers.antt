use Rattle.core_steps.proofs.Encodings.{encoded_is_decoded}
use Rattle.core_steps.proofs.laws.encoded_is_decoded.Goals as goal

pub returns : goal.returns
returns c = encoded_is_decoded
