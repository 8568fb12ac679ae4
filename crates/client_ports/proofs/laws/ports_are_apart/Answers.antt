use Rattle.client_ports.proofs.Facts.{ports_apart}
use Rattle.client_ports.proofs.laws.ports_are_apart.Goals as goal

pub returns : goal.returns
returns c = ports_apart
