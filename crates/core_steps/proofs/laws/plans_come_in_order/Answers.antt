use Rattle.core_steps.proofs.Orders.{plans_come_in_order}
use Rattle.core_steps.proofs.laws.plans_come_in_order.Goals as goal

pub returns : goal.returns
returns c = plans_come_in_order
