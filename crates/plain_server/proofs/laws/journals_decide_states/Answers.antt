use Rattle.plain_server.proofs.Decided.{journals_decide}
use Rattle.plain_server.proofs.laws.journals_decide_states.Goals as goal

pub returns : goal.returns
returns c = journals_decide
