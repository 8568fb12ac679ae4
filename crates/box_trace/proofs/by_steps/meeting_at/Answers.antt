use Rattle.box_trace.proofs.FirstMeetings.{MeetsAt-front, MeetsAt-back}
use Rattle.box_trace.proofs.by_steps.meeting_at.Goals as goal

pub returns-in-Some : goal.returns-in-Some
returns-in-Some c =
    rw (← c.body_at-body.ensures) (MeetsAt-front c.args.step c.body_at-body.result c.args.fixed.now c.args.moving.now c.in-Some.meeting c.in-Some.ensures)

pub returns : goal.returns
returns c =
    rw (← c.body_at-body.ensures, c.after.ensures) (MeetsAt-back c.args.step c.body_at-body.result c.args.fixed.now c.args.moving.now c.in_ok-meeting.meeting c.in_default.ensures c.in_ok-meeting.ensures)
