use Rattle.client_ports.proofs.Facts.{one_answer}
use Rattle.client_ports.proofs.laws.each_packet_has_one_answer.Goals as goal

pub returns : goal.returns
returns c = one_answer
