use Rattle.arena_outcomes.proofs.Lawful.Moves.{stay_free}
use Rattle.arena_outcomes.proofs.laws.players_stay_free.Goals as goal

pub returns : goal.returns
returns c = stay_free
