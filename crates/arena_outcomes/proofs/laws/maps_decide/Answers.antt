use Rattle.arena_outcomes.proofs.OnMaps.{decide}
use Rattle.arena_outcomes.proofs.laws.maps_decide.Goals as goal

pub returns : goal.returns
returns c = decide
