use Rattle.box_trace.proofs.Stops.{free_way_is_gone}
use Rattle.box_trace.proofs.laws.free_way_is_gone.Goals as goal

pub returns : goal.returns
returns c = free_way_is_gone
