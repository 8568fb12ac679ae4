use Rattle.client_ports.proofs.Refusals.{join_first}
use Rattle.client_ports.proofs.laws.joins_are_at_the_first_room.Goals as goal

pub returns : goal.returns
returns c = join_first
