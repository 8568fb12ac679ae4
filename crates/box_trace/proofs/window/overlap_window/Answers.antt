use Rattle.std.proofs.Common.{arith}
use Rattle.std.proofs.lemmas.Int.{ints}
use Rattle.box_trace.proofs.Spans.{window_from_mirrored}
use Rattle.box_trace.proofs.window.overlap_window.Goals as goal

pub returns-then-part-lt0 : goal.returns-then-part-lt0
returns-then-part-lt0 c =
    window_from_mirrored c.args.span c.args.other c.mirrored.result c.mirrored-then-part-lt0.result c.args.part c.unsigned_abs-size.result c.args.count _ (omega (arith, ints)) c.mirrored.ensures.value c.mirrored-then-part-lt0.ensures.value (omega (arith, ints)) c.window_upwards.ensures
