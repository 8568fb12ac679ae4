use Rattle.core_steps.proofs.Nexts.{some_seat_is_free}
use Rattle.core_steps.proofs.machine_laws.some_seat_is_free.Goals as goal

pub returns : goal.returns
returns c = some_seat_is_free
