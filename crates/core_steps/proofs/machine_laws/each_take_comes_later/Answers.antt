use Rattle.core_steps.proofs.Nexts.{each_take_comes_later}
use Rattle.core_steps.proofs.machine_laws.each_take_comes_later.Goals as goal

pub returns : goal.returns
returns c = each_take_comes_later
