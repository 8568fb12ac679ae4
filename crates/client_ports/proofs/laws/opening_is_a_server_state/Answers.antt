use Rattle.client_ports.proofs.Valid.{opening-is_server}
use Rattle.client_ports.proofs.laws.opening_is_a_server_state.Goals as goal

pub returns : goal.returns
returns c = opening-is_server
