use Rattle.slide_move.proofs.TraceCounts.{at_most_three_traces}
use Rattle.slide_move.proofs.laws.at_most_three_traces.Goals as goal

pub returns : goal.returns
returns c = at_most_three_traces
