use Rattle.std.proofs.Common.{take}
use Rattle.box_trace.specs.Meetings.{IsFirstMeeting}
use Rattle.box_trace.proofs.by_windows.first_meeting_among.Given as goal

abbrev pub invariant-loop-block : goal.invariant-loop-block
invariant-loop-block l = IsFirstMeeting l.way.body l.way.d (take l.block l.solids) l.first
