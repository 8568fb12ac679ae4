use Rattle.snapshot_write.proofs.Sights.{written_read}
use Rattle.snapshot_write.proofs.laws.written_snapshots_are_read.Goals as goal

pub returns : goal.returns
returns c = written_read
