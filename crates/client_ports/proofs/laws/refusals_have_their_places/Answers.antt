use Rattle.client_ports.proofs.Turns.{refusals_have_places}
use Rattle.client_ports.proofs.laws.refusals_have_their_places.Goals as goal

pub returns : goal.returns
returns c = refusals_have_places
