use Rattle.core_steps.proofs.Seats.{ended_seat_stands}
use Rattle.core_steps.proofs.laws.ended_seat_stands.Goals as goal

pub returns : goal.returns
returns c = ended_seat_stands
