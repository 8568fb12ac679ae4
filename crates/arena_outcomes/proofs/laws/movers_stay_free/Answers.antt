use Rattle.arena_outcomes.proofs.OnMaps.{free_movers}
use Rattle.arena_outcomes.proofs.laws.movers_stay_free.Goals as goal

pub returns : goal.returns
returns c = free_movers
