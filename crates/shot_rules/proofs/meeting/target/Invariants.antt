use Rattle.std.proofs.Common.{take}
use Rattle.shot_rules.specs.Meetings.{IsMeeting}
use Rattle.shot_rules.proofs.meeting.target.Given as goal

-- what the box meets first of those records that were looked at
abbrev pub invariant-loop-r : goal.invariant-loop-r
invariant-loop-r l = IsMeeting l.body l.way l.fixed (take l.r-index l.near) l.first
