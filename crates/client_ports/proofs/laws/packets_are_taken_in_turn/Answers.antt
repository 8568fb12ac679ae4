use Rattle.client_ports.proofs.Turns.{taken_in_turn}
use Rattle.client_ports.proofs.laws.packets_are_taken_in_turn.Goals as goal

pub returns : goal.returns
returns c = taken_in_turn
