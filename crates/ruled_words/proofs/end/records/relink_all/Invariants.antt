use Rattle.ruled_words.proofs.Relinking.{IsRelinkedBelow}
use Rattle.ruled_words.proofs.end.records.relink_all.Given as goal

abbrev pub invariant-loop-id : goal.invariant-loop-id
invariant-loop-id l = IsRelinkedBelow l.id l.words l.fn.world l.world
