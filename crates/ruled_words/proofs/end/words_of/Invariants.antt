use Rattle.std.specs.Mem.Slots.{slots_items}
use Rattle.ruled_words.proofs.TableCopies.{IsCopiedBelow}
use Rattle.ruled_words.proofs.end.words_of.Given as goal

abbrev pub invariant-loop-i : goal.invariant-loop-i
invariant-loop-i l = IsCopiedBelow l.i (slots_items l.fn.closed.words) l.words
