use Rattle.client_ports.proofs.Refusals.{refused_where_it_holds}
use Rattle.client_ports.proofs.laws.refusals_are_known.Goals as goal

pub returns : goal.returns
returns c = refused_where_it_holds
