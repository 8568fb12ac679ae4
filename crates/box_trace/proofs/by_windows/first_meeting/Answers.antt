use Rattle.std.proofs.Common.{Some}
use Rattle.box_trace.proofs.FirstMeetings.{earlier_is_first, first_is_of_front}
use Rattle.box_trace.proofs.by_windows.first_meeting.Goals as goal

pub returns-in_default : goal.returns-in_default
returns-in_default c =
    first_is_of_front c.args.way.now.body c.args.way.now.d c.args.fixed.now c.args.moving.now c.first_meeting_among-first.result c.first_meeting_among-first.ensures c.in_default.ensures

pub returns : goal.returns
returns c =
    rw (c.earlier.ensures, c.after.ensures) (earlier_is_first c.args.way.now.body c.args.way.now.d c.args.fixed.now c.args.moving.now c.first_meeting_among-first.result (Some c.in-Some.second) c.first_meeting_among-first.ensures c.in-Some.ensures)
