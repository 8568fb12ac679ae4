use Rattle.arena_outcomes.proofs.Lawful.Moves.{replies_have_origin}
use Rattle.arena_outcomes.proofs.laws.replies_have_the_origin.Goals as goal

pub returns : goal.returns
returns c = replies_have_origin
