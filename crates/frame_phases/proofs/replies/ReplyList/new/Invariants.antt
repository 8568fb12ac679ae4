use Rattle.std.proofs.Common.{◌≡◌, ◌≤◌, vec_len, vec_capacity}
use Rattle.frame_phases.proofs.replies.ReplyList.new.Given as goal

-- as many buffers as were made, and room for all
abbrev pub invariant-loop : goal.invariant-loop
invariant-loop l = (vec_len l.spare ≡ l.counter) × (64 ≤ vec_capacity l.spare)
