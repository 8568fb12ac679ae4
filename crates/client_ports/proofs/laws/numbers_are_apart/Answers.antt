use Rattle.client_ports.proofs.Advances.{numbers_apart}
use Rattle.client_ports.proofs.laws.numbers_are_apart.Goals as goal

pub returns : goal.returns
returns c = numbers_apart
