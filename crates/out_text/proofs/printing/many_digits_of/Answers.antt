use Rattle.std.proofs.Common.{refl, arith, rules}
use Rattle.hex.specs.Hex.{encode_with}
use Rattle.out_text.proofs.Digits.{puts_two}
use Rattle.out_text.proofs.printing.many_digits_of.Goals as goal

pub loop-i-init : goal.loop-i-init
unfolding encode_with
loop-i-init c = (refl, refl)

pub loop-i-preserved : goal.loop-i-preserved
loop-i-preserved c = (
  search rules,
  puts_two c.loop-i.digits c.args.bytes.now c.loop-i.i c.high.result c.low.result (omega (arith, c.loop-i.invariant.0, c.loop-i-test.true))
      (omega (arith, c.requires, c.loop-i-test.true)) c.high.ensures c.low.ensures c.loop-i.invariant.1,
)
