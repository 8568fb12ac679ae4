use Rattle.arena_outcomes.proofs.OnMaps.{movers_stay_on}
use Rattle.arena_outcomes.proofs.laws.movers_stay_on_maps.Goals as goal

pub returns : goal.returns
returns c = movers_stay_on
