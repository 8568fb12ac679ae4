use Rattle.box_strips.proofs.PlaceBits.{bit_set, bit_kept}
use Rattle.box_strips.proofs.bits.with_bit.Goals as goal

pub returns-clause-set : goal.returns-clause-set
returns-clause-set c = bit_set c.args.word c.args.bit c.requires

pub returns-clause-kept : goal.returns-clause-kept
returns-clause-kept c i there = bit_kept c.args.word c.args.bit i c.requires there
