use Rattle.client_ports.proofs.Facts.{join_clear}
use Rattle.client_ports.proofs.laws.nobody_is_added_into_a_solid.Goals as goal

pub returns : goal.returns
returns c = join_clear
