use Rattle.arena_outcomes.proofs.OnMaps.{stay_movers}
use Rattle.arena_outcomes.proofs.laws.movers_stay_themselves.Goals as goal

pub returns : goal.returns
returns c = stay_movers
