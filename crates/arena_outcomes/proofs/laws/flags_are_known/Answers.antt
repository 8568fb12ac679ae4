use Rattle.arena_outcomes.proofs.Flags.{flags_are_known}
use Rattle.arena_outcomes.proofs.laws.flags_are_known.Goals as goal

pub returns : goal.returns
returns c = flags_are_known
