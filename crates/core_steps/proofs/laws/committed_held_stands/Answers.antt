use Rattle.core_steps.proofs.Commits.{committed_held_stands}
use Rattle.core_steps.proofs.laws.committed_held_stands.Goals as goal

pub returns : goal.returns
returns c = committed_held_stands
