use Rattle.client_ports.proofs.Facts.{move_accepted}
use Rattle.client_ports.proofs.laws.accepted_numbers_rise.Goals as goal

pub returns : goal.returns
returns c = move_accepted
