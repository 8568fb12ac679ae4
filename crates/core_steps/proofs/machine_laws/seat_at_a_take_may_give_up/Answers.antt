use Rattle.core_steps.proofs.AtTakes.{seat_at_a_take_may_give_up}
use Rattle.core_steps.proofs.machine_laws.seat_at_a_take_may_give_up.Goals as goal

pub returns : goal.returns
returns c = seat_at_a_take_may_give_up
