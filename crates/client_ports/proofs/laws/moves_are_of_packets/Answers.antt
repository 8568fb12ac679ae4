use Rattle.client_ports.proofs.OfPackets.{moves_of_packets}
use Rattle.client_ports.proofs.laws.moves_are_of_packets.Goals as goal

pub returns : goal.returns
returns c = moves_of_packets
