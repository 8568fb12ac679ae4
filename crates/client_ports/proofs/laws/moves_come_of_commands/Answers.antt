use Rattle.client_ports.proofs.Counts.{moves_of_commands}
use Rattle.client_ports.proofs.laws.moves_come_of_commands.Goals as goal

pub returns : goal.returns
returns c = moves_of_commands
