use Rattle.move_journal.proofs.JournalLaws.{merges_have_whole_histories}
use Rattle.move_journal.proofs.laws.merges_have_whole_histories.Goals as goal

pub returns : goal.returns
returns c = merges_have_whole_histories
