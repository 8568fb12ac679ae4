use Rattle.core_steps.proofs.Waiting.{takes_come_in_order}
use Rattle.core_steps.proofs.laws.takes_come_in_order.Goals as goal

pub returns : goal.returns
returns c = takes_come_in_order
