use Rattle.arena_outcomes.proofs.Lawful.Moves.{replied_rise}
use Rattle.arena_outcomes.proofs.laws.replied_ids_rise.Goals as goal

pub returns : goal.returns
returns c = replied_rise
