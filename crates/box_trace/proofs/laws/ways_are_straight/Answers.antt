use Rattle.box_trace.proofs.Straight.{ways_are_straight}
use Rattle.box_trace.proofs.laws.ways_are_straight.Goals as goal

pub returns : goal.returns
returns c = ways_are_straight
