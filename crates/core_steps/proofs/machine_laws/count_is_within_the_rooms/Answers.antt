use Rattle.core_steps.proofs.Rooms.{count_is_within_the_rooms}
use Rattle.core_steps.proofs.machine_laws.count_is_within_the_rooms.Goals as goal

pub returns : goal.returns
returns c = count_is_within_the_rooms
