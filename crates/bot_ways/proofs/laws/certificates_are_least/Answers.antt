use Rattle.bot_ways.proofs.Certificates.{certified}
use Rattle.bot_ways.proofs.laws.certificates_are_least.Goals as goal

pub returns : goal.returns
returns c = λ map least cert. certified map least cert
