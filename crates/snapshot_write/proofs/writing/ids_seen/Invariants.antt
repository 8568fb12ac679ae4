use Rattle.snapshot_write.proofs.InView.{KeepsIds}
use Rattle.snapshot_write.proofs.writing.ids_seen.Given as goal

abbrev pub invariant-loop-id : goal.invariant-loop-id
invariant-loop-id l = KeepsIds l.world.records l.me l.view l.id-index l.ids
