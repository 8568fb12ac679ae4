use Rattle.slide_move.proofs.Reaches.{reach_suffices}
use Rattle.slide_move.proofs.laws.reach_suffices.Goals as goal

pub returns : goal.returns
returns c = reach_suffices
