use Rattle.out_text.proofs.LastShown.{last_shown}
use Rattle.out_text.proofs.laws.last_moves_are_shown.Goals as goal

pub returns : goal.returns
returns c = last_shown
