use Rattle.std.proofs.Common.{length}
use Rattle.out_text.proofs.Ids.{IsReadSoFar}
use Rattle.out_text.proofs.reading.listed_in.Given as goal

-- what is read so far and what is left give what all gives
abbrev pub invariant-loop-part : goal.invariant-loop-part
invariant-loop-part l = IsReadSoFar l.fn.text l.ids l.rest

abbrev pub decreases-loop-part : goal.decreases-loop-part
decreases-loop-part l = length l.rest
