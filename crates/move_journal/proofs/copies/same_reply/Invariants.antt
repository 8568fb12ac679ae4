use Rattle.std.proofs.Common.{◌≡◌, take}
use Rattle.move_journal.proofs.copies.same_reply.Given as goal

abbrev pub invariant-loop-id : goal.invariant-loop-id
invariant-loop-id l = l.got ≡ take l.id-index l.id-items
