use Rattle.box_trace.proofs.FirstMeetings.{earlier_with_next}
use Rattle.box_trace.proofs.by_windows.first_meeting_among.Goals as goal

pub loop-block-preserved : goal.loop-block-preserved
loop-block-preserved c =
    let way = c.args.way.now in
    let loop = c.loop-block in
    rw c.earlier-first.ensures (earlier_with_next way.body way.d c.args.solids.now loop.block c.index-solids-block.result loop.first c.meeting_with.result c.loop-block-test.true c.index-solids-block.is loop.invariant c.meeting_with.ensures)
