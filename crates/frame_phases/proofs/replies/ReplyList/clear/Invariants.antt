use Rattle.std.proofs.Common.{◌≡◌, ◌+◌, ◌≤◌, vec_len, vec_capacity}
use Rattle.frame_phases.proofs.replies.ReplyList.clear.Given as goal

-- each buffer is in one of the two lists, which keep their room
abbrev pub invariant-loop-reply : goal.invariant-loop-reply
invariant-loop-reply l =
    (vec_len l.self-inside.replies + vec_len l.self-inside.spare ≡ 64) × (64 ≤ vec_capacity l.self-inside.replies) × (64 ≤ vec_capacity l.self-inside.spare)

-- how many replies are left
abbrev pub decreases-loop-reply : goal.decreases-loop-reply
decreases-loop-reply l = vec_len l.self-inside.replies
