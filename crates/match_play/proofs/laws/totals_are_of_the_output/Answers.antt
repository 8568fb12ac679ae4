use Rattle.match_play.proofs.TotalsOfLines.{totals_are_of_the_output}
use Rattle.match_play.proofs.laws.totals_are_of_the_output.Goals as goal

pub returns : goal.returns
returns c = totals_are_of_the_output
