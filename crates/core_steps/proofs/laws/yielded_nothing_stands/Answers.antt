use Rattle.core_steps.proofs.GiveBacks.{yielded_nothing_stands}
use Rattle.core_steps.proofs.laws.yielded_nothing_stands.Goals as goal

pub returns : goal.returns
returns c = yielded_nothing_stands
