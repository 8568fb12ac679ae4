use Rattle.client_ports.proofs.Leavers.{leavers_out}
use Rattle.client_ports.proofs.laws.finish_takes_leavers_out.Goals as goal

pub returns : goal.returns
returns c = leavers_out
