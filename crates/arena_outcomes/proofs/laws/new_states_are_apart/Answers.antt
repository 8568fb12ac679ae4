use Rattle.arena_outcomes.proofs.Lawful.Moves.{new_states_apart}
use Rattle.arena_outcomes.proofs.laws.new_states_are_apart.Goals as goal

pub returns : goal.returns
returns c = new_states_apart
