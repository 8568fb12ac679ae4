use Rattle.demo_make.proofs.Accepted.{all_is_accepted}
use Rattle.demo_make.proofs.laws.all_is_accepted.Goals as goal

pub returns : goal.returns
returns c = all_is_accepted
