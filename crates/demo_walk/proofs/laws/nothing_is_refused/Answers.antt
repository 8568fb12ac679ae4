use Rattle.demo_walk.proofs.Accepted.{nothing_is_refused}
use Rattle.demo_walk.proofs.laws.nothing_is_refused.Goals as goal

pub returns : goal.returns
returns c = nothing_is_refused
