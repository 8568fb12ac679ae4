use Rattle.slide_move.proofs.Hits.{side_is_sideways_hit}
use Rattle.slide_move.proofs.laws.side_is_sideways_hit.Goals as goal

pub returns : goal.returns
returns c = side_is_sideways_hit
