use Rattle.client_ports.proofs.Advances.{accepted_once}
use Rattle.client_ports.proofs.laws.numbers_are_accepted_once.Goals as goal

pub returns : goal.returns
returns c = accepted_once
