use Rattle.slide_move.proofs.GoingOn.{ends_still_where_stopped}
use Rattle.slide_move.proofs.laws.ends_still_where_stopped.Goals as goal

pub returns : goal.returns
returns c = ends_still_where_stopped
