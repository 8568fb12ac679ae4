use Rattle.slide_move.proofs.SlideBodies.{bodies_are_in_range}
use Rattle.slide_move.proofs.laws.bodies_are_in_range.Goals as goal

pub returns : goal.returns
returns c = bodies_are_in_range
