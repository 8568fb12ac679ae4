use Rattle.core_steps.proofs.GivenRooms.{rooms_are_those_given}
use Rattle.core_steps.proofs.machine_laws.rooms_are_those_given.Goals as goal

pub returns : goal.returns
returns c = rooms_are_those_given
