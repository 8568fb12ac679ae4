use Rattle.core_seats.proofs.NearLists.{slots_more}
use Rattle.core_seats.proofs.near.slots_read.Goals as goal

pub loop-read-preserved : goal.loop-read-preserved
loop-read-preserved c = rw c.from.ensures (slots_more c.loop-read.slots c.args.others.now c.loop-read.read-index _ c.loop-read-test.true c.loop-read.invariant)
