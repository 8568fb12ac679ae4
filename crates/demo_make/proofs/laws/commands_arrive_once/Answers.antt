use Rattle.demo_make.proofs.Repeated.{commands_arrive_once}
use Rattle.demo_make.proofs.laws.commands_arrive_once.Goals as goal

pub returns : goal.returns
returns c = commands_arrive_once
