use Rattle.snapshot_write.proofs.Sights.{third_agrees, other_agrees}
use Rattle.snapshot_write.proofs.laws.snapshots_agree_on_origins.Goals as goal

pub returns : goal.returns
returns c = record { third = third_agrees; each_other = other_agrees }
