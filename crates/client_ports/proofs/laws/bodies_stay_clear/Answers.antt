use Rattle.client_ports.proofs.Staying.{clear_received, clear_finished}
use Rattle.client_ports.proofs.laws.bodies_stay_clear.Goals as goal

pub returns : goal.returns
returns c = λ map frame state arrivals rules is are. (clear_received map frame state arrivals rules is are, clear_finished map state are)
