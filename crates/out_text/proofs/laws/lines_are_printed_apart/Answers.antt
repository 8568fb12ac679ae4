use Rattle.out_text.proofs.LinesRead.{one_line}
use Rattle.out_text.proofs.laws.lines_are_printed_apart.Goals as goal

pub returns : goal.returns
returns c = one_line
