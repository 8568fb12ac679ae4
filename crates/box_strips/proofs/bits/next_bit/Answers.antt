use Rattle.box_strips.proofs.PlaceBits.{no_bit_left, next_bit_is, first_bit}
use Rattle.box_strips.proofs.bits.next_bit.Goals as goal

pub returns-then-rest-eq0 : goal.returns-then-rest-eq0
returns-then-rest-eq0 c = no_bit_left c.args.word c.args.from c.if-rest-eq0.true

pub returns : goal.returns
returns c =
    let first = first_bit c.args.word c.args.from c.ranges.word.fits c.if-rest-eq0.false in
    next_bit_is c.args.word c.args.from _ c.ranges.word.fits first.set first.none
