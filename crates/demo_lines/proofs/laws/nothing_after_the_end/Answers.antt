use Rattle.demo_lines.proofs.Prefixes.{nothing_after_the_end}
use Rattle.demo_lines.proofs.laws.nothing_after_the_end.Goals as goal

pub returns : goal.returns
returns c = nothing_after_the_end
