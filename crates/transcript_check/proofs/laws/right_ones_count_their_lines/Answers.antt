use Rattle.transcript_check.proofs.LineCounts.{right_ones_count}
use Rattle.transcript_check.proofs.laws.right_ones_count_their_lines.Goals as goal

pub returns : goal.returns
returns c = right_ones_count
