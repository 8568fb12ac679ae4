use Rattle.areanode.proofs.Words.{word_of-below}
use Rattle.areanode.proofs.laws.word_fits.Goals as goal

pub returns : goal.returns
returns c = word_of-below
