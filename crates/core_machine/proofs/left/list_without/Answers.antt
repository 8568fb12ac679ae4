use Rattle.core_machine.proofs.Bits.{word_without_bit}
use Rattle.core_machine.proofs.left.list_without.Goals as goal

pub returns : goal.returns
returns c = word_without_bit c.args.found c.args.slot c.ranges.found.fits c.requires
