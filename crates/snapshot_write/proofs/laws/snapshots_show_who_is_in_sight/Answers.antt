use Rattle.snapshot_write.proofs.Sights.{in_sight, sight_in}
use Rattle.snapshot_write.proofs.laws.snapshots_show_who_is_in_sight.Goals as goal

pub returns : goal.returns
returns c = λ records frame slot me entries live s. (in_sight records me entries s, sight_in records me s)
