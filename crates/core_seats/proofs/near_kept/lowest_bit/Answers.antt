use Rattle.core_seats.proofs.SlotLists.{bit_first}
use Rattle.core_seats.proofs.near_kept.lowest_bit.Goals as goal

pub returns-clause-there : goal.returns-clause-there
returns-clause-there c = (bit_first c.args.word c.requires c.ranges.word.fits).0

pub returns-clause-first : goal.returns-clause-first
returns-clause-first c = (bit_first c.args.word c.requires c.ranges.word.fits).1
