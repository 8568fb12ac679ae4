use Rattle.client_ports.proofs.Staying.{server_received, server_finished}
use Rattle.client_ports.proofs.laws.states_stay_valid.Goals as goal

pub returns : goal.returns
returns c = λ map frame state arrivals rules is. (server_received map frame state arrivals rules is, server_finished map state is)
