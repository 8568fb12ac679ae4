use Rattle.std.proofs.Common.{◌≡◌, [], replicate}
use Rattle.frame_phases.proofs.replies.ReplyList.fill_empty.Given as goal

-- as many empty replies as were put in
abbrev pub invariant-loop : goal.invariant-loop
invariant-loop l = l.self ≡ replicate l.counter []
