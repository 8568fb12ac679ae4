use Rattle.client_ports.proofs.Advances.{numbers_rise}
use Rattle.client_ports.proofs.laws.numbers_rise_in_a_frame.Goals as goal

pub returns : goal.returns
returns c = numbers_rise
