use Rattle.arena_outcomes.proofs.OnMaps.{down_lie}
use Rattle.arena_outcomes.proofs.laws.down_players_lie.Goals as goal

pub returns : goal.returns
returns c = down_lie
