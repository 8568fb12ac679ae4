use Rattle.demo_lines.proofs.Limited.{limits_cut_nothing}
use Rattle.demo_lines.proofs.laws.limits_cut_nothing.Goals as goal

pub returns : goal.returns
returns c = limits_cut_nothing
