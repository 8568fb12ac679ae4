use Rattle.std.proofs.Common.{◌≡◌, vec_len}
use Rattle.reply_fan.specs.Replies.{AreEmpty}
use Rattle.reply_fan.proofs.tests.buffers.Given as goal

-- as many buffers as were made, each empty
abbrev pub invariant-loop : goal.invariant-loop
invariant-loop l = (vec_len l.outs ≡ l.counter) × AreEmpty l.outs.items
