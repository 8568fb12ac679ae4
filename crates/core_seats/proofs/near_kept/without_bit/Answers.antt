use Rattle.core_seats.proofs.SlotLists.{bit_cleared, without_less}
use Rattle.core_seats.proofs.near_kept.without_bit.Goals as goal

pub returns-clause-bits : goal.returns-clause-bits
returns-clause-bits c other within = bit_cleared c.args.word c.args.bit other c.requires within

pub returns-clause-less : goal.returns-clause-less
returns-clause-less c there = without_less c.args.word c.args.bit c.requires there
