use Rattle.demo_walk.proofs.PlacesKnown.{places_are_known}
use Rattle.demo_walk.proofs.laws.places_are_known.Goals as goal

pub returns : goal.returns
returns c = places_are_known
