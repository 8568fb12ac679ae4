use Rattle.snapshot_write.proofs.InSight.{show_what_is_within_sight}
use Rattle.snapshot_write.proofs.laws.snapshots_show_what_is_within_sight.Goals as goal

pub returns : goal.returns
returns c = show_what_is_within_sight
