use Rattle.demo_lines.proofs.LongestRecording.{lines_are_bounded}
use Rattle.demo_lines.proofs.laws.lines_are_bounded.Goals as goal

pub returns : goal.returns
returns c = lines_are_bounded
