use Rattle.std.proofs.Common.{arith}
use Rattle.std.proofs.lemmas.Int.{ints}
use Rattle.box_trace.proofs.Spans.{window_upwards_is}
use Rattle.box_trace.proofs.window.window_upwards.Goals as goal

pub returns : goal.returns
returns c =
    window_upwards_is c.args.span c.args.other c.args.size c.args.count _ _ _ _ (omega (arith, ints)) (omega (arith, ints)) c.first_reach.ensures c.first_reach-2.ensures
