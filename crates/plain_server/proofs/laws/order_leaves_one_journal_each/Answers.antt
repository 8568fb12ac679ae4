use Rattle.plain_server.specs.RecordsById.{opening}
use Rattle.plain_server.proofs.Frames.{one_journal_each}
use Rattle.plain_server.proofs.laws.order_leaves_one_journal_each.Goals as goal

pub returns : goal.returns
returns c = λ map frames journals right order. one_journal_each map 0 (opening map) frames journals right order
