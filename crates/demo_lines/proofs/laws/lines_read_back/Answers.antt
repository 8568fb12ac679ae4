use Rattle.demo_lines.proofs.LinesBack.{lines_read_back}
use Rattle.demo_lines.proofs.laws.lines_read_back.Goals as goal

pub returns : goal.returns
returns c = lines_read_back
