use Rattle.move_journal.proofs.JournalLaws.{order_leaves_one_journal}
use Rattle.move_journal.proofs.laws.order_leaves_one_journal.Goals as goal

pub returns : goal.returns
returns c = order_leaves_one_journal
