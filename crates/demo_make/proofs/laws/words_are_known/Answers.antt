use Rattle.demo_make.proofs.Streams.{words_are_known}
use Rattle.demo_make.proofs.laws.words_are_known.Goals as goal

pub returns : goal.returns
returns c = words_are_known
