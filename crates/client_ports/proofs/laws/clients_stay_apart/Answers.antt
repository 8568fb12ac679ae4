use Rattle.client_ports.proofs.Staying.{clients_received, clients_finished}
use Rattle.client_ports.proofs.laws.clients_stay_apart.Goals as goal

pub returns : goal.returns
returns c = λ map frame state arrivals are. (clients_received map frame state arrivals are, clients_finished state are)
