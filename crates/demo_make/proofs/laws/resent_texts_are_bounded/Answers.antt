use Rattle.demo_make.proofs.ResentBounds.{resent_texts_are_bounded}
use Rattle.demo_make.proofs.laws.resent_texts_are_bounded.Goals as goal

pub returns : goal.returns
returns c = resent_texts_are_bounded
