use Rattle.core_machine.proofs.Bits.{word_with_bit}
use Rattle.core_machine.proofs.left.list_with.Goals as goal

pub returns : goal.returns
returns c = word_with_bit c.args.found c.args.slot c.ranges.found.fits c.requires
