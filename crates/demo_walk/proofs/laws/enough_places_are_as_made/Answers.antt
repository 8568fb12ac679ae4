use Rattle.demo_walk.proofs.Schedules.{enough_places_are_as_made}
use Rattle.demo_walk.proofs.laws.enough_places_are_as_made.Goals as goal

pub returns : goal.returns
returns c = enough_places_are_as_made
