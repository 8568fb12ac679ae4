use Rattle.arena_outcomes.proofs.OnMaps.{follow_moves}
use Rattle.arena_outcomes.proofs.laws.shots_follow_moves.Goals as goal

pub returns : goal.returns
returns c = follow_moves
