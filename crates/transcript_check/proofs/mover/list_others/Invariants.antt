use Rattle.std.proofs.Common.{◌≡◌}
use Rattle.transcript_check.proofs.Others.{others_first}
use Rattle.transcript_check.proofs.mover.list_others.Given as goal

-- the others so far
abbrev pub invariant-loop-id : goal.invariant-loop-id
invariant-loop-id l = record {
  so_far : l.others ≡ others_first l.world l.slot l.id-index;
}
