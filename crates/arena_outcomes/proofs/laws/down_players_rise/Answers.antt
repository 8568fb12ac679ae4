use Rattle.arena_outcomes.proofs.OnMaps.{down_rise}
use Rattle.arena_outcomes.proofs.laws.down_players_rise.Goals as goal

pub returns : goal.returns
returns c = down_rise
