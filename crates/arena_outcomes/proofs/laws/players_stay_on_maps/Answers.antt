use Rattle.arena_outcomes.proofs.Lawful.Moves.{stay_on_maps}
use Rattle.arena_outcomes.proofs.laws.players_stay_on_maps.Goals as goal

pub returns : goal.returns
returns c = stay_on_maps
