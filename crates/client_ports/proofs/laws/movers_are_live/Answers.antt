use Rattle.client_ports.proofs.Advances.{movers_live}
use Rattle.client_ports.proofs.laws.movers_are_live.Goals as goal

pub returns : goal.returns
returns c = movers_live
