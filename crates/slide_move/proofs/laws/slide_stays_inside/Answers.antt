use Rattle.slide_move.proofs.Insides.{slide_stays_inside}
use Rattle.slide_move.proofs.laws.slide_stays_inside.Goals as goal

pub returns : goal.returns
returns c = slide_stays_inside
