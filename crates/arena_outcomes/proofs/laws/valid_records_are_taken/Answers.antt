use Rattle.arena_outcomes.proofs.Lawful.Worlds.{valid_is_taken}
use Rattle.arena_outcomes.proofs.laws.valid_records_are_taken.Goals as goal

pub returns : goal.returns
returns c = valid_is_taken
