use Rattle.slide_move.proofs.GoingOn.{goes_on_where_not_stopped}
use Rattle.slide_move.proofs.laws.goes_on_where_not_stopped.Goals as goal

pub returns : goal.returns
returns c = goes_on_where_not_stopped
