use Rattle.client_ports.proofs.Newcomers.{joins_add_newcomers}
use Rattle.client_ports.proofs.laws.joins_add_newcomers.Goals as goal

pub returns : goal.returns
returns c = joins_add_newcomers
