use Rattle.std.proofs.Common.{◌∙◌, sym}
use Rattle.snapshot_write.proofs.Rules.{same_spelling}
use Rattle.snapshot_write.proofs.laws.one_spelling.Goals as goal

pub returns : goal.returns
returns c = record { of_a_snapshot = λ s a b p q. p.spelled ∙ sym q.spelled; of_no_other = same_spelling }
