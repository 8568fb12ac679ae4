use Rattle.std.proofs.Common.{◌≡◌, take}
use Rattle.out_text.proofs.out_line.copy_of.Given as goal

-- the ids so far
abbrev pub invariant-loop-id : goal.invariant-loop-id
invariant-loop-id l = l.copy ≡ take l.id-index l.id-items
