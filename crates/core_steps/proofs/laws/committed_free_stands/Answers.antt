use Rattle.core_steps.proofs.Commits.{committed_free_stands}
use Rattle.core_steps.proofs.laws.committed_free_stands.Goals as goal

pub returns : goal.returns
returns c = committed_free_stands
