use Rattle.box_trace.proofs.Stops.{named_solid_stops}
use Rattle.box_trace.proofs.laws.named_solid_stops.Goals as goal

pub returns : goal.returns
returns c = named_solid_stops
