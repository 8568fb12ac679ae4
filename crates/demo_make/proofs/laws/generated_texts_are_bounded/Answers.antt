use Rattle.demo_make.proofs.Bounds.{texts_are_bounded}
use Rattle.demo_make.proofs.laws.generated_texts_are_bounded.Goals as goal

pub returns : goal.returns
returns c = texts_are_bounded
