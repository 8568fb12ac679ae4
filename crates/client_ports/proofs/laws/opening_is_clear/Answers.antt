use Rattle.client_ports.proofs.Things.{opening_clear}
use Rattle.client_ports.proofs.laws.opening_is_clear.Goals as goal

pub returns : goal.returns
returns c = opening_clear
