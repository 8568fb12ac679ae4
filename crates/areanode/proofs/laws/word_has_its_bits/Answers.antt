use Rattle.areanode.proofs.Words.{word_has_its_bits}
use Rattle.areanode.proofs.laws.word_has_its_bits.Goals as goal

pub returns : goal.returns
returns c = word_has_its_bits
