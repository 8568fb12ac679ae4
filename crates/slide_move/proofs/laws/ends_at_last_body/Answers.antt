use Rattle.slide_move.proofs.SlideBodies.{ends_at_last_body}
use Rattle.slide_move.proofs.laws.ends_at_last_body.Goals as goal

pub returns : goal.returns
returns c = ends_at_last_body
