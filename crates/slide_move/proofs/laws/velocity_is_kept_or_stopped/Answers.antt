use Rattle.slide_move.proofs.Slides.{vel_kept}
use Rattle.slide_move.proofs.laws.velocity_is_kept_or_stopped.Goals as goal

pub returns : goal.returns
returns c = vel_kept
