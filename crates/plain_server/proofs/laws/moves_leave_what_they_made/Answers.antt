use Rattle.plain_server.proofs.Kept.{moves_leave_what_they_made}
use Rattle.plain_server.proofs.laws.moves_leave_what_they_made.Goals as goal

pub returns : goal.returns
returns c = moves_leave_what_they_made
