use Rattle.std.proofs.Common.{◌+◌, length-append, length-drop, arith}
use Rattle.out_text.proofs.Digits.{one_more, none_left}
use Rattle.out_text.proofs.printing.push_each.Goals as goal

pub loop-b-preserved : goal.loop-b-preserved
loop-b-preserved g c = record {
  all = rw (c.extend.ensures, c.high.ensures, c.low.ensures) (one_more c.loop-b.out _ c.args.bytes.now c.loop-b.b-index 0 c.loop-b-test.true c.loop-b.invariant.all);
  room = rw (c.extend.ensures, length-append c.loop-b.out _) (omega (arith, c.loop-b.invariant.room, length-drop c.loop-b.b-index c.args.bytes.now, length-drop (c.loop-b.b-index + 1) c.args.bytes.now));
}

pub returns : goal.returns
returns g c = none_left c.loop-b.out _ c.args.bytes.now c.loop-b.b-index (omega arith) c.loop-b.invariant.all
