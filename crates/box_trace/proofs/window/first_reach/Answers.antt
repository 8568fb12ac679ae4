use Rattle.std.proofs.Common.{arith}
use Rattle.std.proofs.lemmas.Int.{ints}
use Rattle.box_trace.proofs.Reaches.{first_reach_is}
use Rattle.box_trace.proofs.window.first_reach.Goals as goal

pub returns : goal.returns
returns c = first_reach_is c.args.target c.unsigned_abs-target.result c.args.size c.args.count c.div_ceil.result (omega (arith, ints)) (omega (arith, ints)) (omega arith) c.requires.size (cc)
