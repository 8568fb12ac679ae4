use Rattle.client_ports.proofs.Advances.{few_moves}
use Rattle.client_ports.proofs.Staying.{clients_received}
use Rattle.client_ports.proofs.laws.players_have_few_moves.Goals as goal

pub returns : goal.returns
returns c = λ map frame state arrivals slot are. few_moves map frame state arrivals slot (clients_received map frame state arrivals are)
