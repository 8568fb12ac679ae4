use Rattle.core_steps.proofs.Seats.{made_seat_stands}
use Rattle.core_steps.proofs.laws.made_seat_stands.Goals as goal

pub returns : goal.returns
returns c = made_seat_stands
