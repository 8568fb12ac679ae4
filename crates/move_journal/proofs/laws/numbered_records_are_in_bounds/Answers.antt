-- The records stand at their ids.
use Rattle.move_journal.proofs.ValidWorlds.{valid_where_numbered}
use Rattle.move_journal.proofs.laws.numbered_records_are_in_bounds.Goals as goal

pub returns : goal.returns
returns c = valid_where_numbered
