use Rattle.move_journal.proofs.JournalLaws.{moves_in_order_are_right}
use Rattle.move_journal.proofs.laws.moves_in_order_are_right.Goals as goal

pub returns : goal.returns
returns c = moves_in_order_are_right
