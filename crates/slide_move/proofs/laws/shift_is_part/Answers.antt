use Rattle.slide_move.proofs.Slides.{shift_is_part}
use Rattle.slide_move.proofs.laws.shift_is_part.Goals as goal

pub returns : goal.returns
returns c = shift_is_part
