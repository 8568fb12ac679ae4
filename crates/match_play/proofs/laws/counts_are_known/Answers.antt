use Rattle.match_play.proofs.Counts.{counts_are_known}
use Rattle.match_play.proofs.laws.counts_are_known.Goals as goal

pub returns : goal.returns
returns c = counts_are_known
