use Rattle.client_ports.proofs.Counts.{packets_answered}
use Rattle.client_ports.proofs.laws.each_packet_is_answered.Goals as goal

pub returns : goal.returns
returns c = packets_answered
