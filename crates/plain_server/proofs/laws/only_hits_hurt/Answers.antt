use Rattle.plain_server.proofs.Unhit.{only_hits_hurt}
use Rattle.plain_server.proofs.laws.only_hits_hurt.Goals as goal

pub returns : goal.returns
returns c = only_hits_hurt
