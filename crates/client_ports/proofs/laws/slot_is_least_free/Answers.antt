use Rattle.client_ports.proofs.Facts.{slot_least}
use Rattle.client_ports.proofs.laws.slot_is_least_free.Goals as goal

pub returns : goal.returns
returns c = slot_least
