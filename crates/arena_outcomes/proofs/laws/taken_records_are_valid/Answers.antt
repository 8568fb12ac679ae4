use Rattle.arena_outcomes.proofs.Lawful.Worlds.{taken_is_valid}
use Rattle.arena_outcomes.proofs.laws.taken_records_are_valid.Goals as goal

pub returns : goal.returns
returns c = taken_is_valid
