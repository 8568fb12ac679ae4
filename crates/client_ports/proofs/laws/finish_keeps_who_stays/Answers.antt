use Rattle.client_ports.proofs.Leavers.{who_stays}
use Rattle.client_ports.proofs.laws.finish_keeps_who_stays.Goals as goal

pub returns : goal.returns
returns c = who_stays
