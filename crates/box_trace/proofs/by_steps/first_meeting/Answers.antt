use Rattle.std.proofs.Common.{◌++◌}
use Rattle.box_trace.proofs.FirstMeetings.{IsFree-more}
use Rattle.box_trace.proofs.by_steps.first_meeting.Goals as goal

pub loop-steps-preserved : goal.loop-steps-preserved
loop-steps-preserved c =
    IsFree-more c.args.way.now.body c.args.way.now.d (c.args.fixed.now ++ c.args.moving.now) c.loop-steps.steps c.loop-steps.invariant c.in_default.ensures
