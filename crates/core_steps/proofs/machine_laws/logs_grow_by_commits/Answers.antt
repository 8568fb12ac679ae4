use Rattle.core_steps.proofs.Logs.{logs_grow_by_commits}
use Rattle.core_steps.proofs.machine_laws.logs_grow_by_commits.Goals as goal

pub returns : goal.returns
returns c = logs_grow_by_commits
