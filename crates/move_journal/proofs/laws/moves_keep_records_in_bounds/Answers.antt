-- One command after another.
use Rattle.std.proofs.Common.{refl}
use Rattle.move_journal.proofs.ValidWorlds.{valid_after}
use Rattle.move_journal.proofs.laws.moves_keep_records_in_bounds.Goals as goal

pub returns : goal.returns
returns c = λ act takes w commands keeps is. valid_after act takes w.ids commands w keeps refl is
