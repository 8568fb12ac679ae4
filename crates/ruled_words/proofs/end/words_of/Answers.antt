use Rattle.std.proofs.Common.{arith}
use Rattle.std.specs.Mem.Slots.{slots_items}
use Rattle.ruled_words.proofs.TableCopies.{copied_next}
use Rattle.ruled_words.proofs.end.words_of.Goals as goal

pub loop-i-preserved : goal.loop-i-preserved
loop-i-preserved c =
    copied_next c.loop-i.i c.word.result (slots_items c.args.closed.words) c.loop-i.words c.loop-i.invariant (omega arith) c.word.ensures
