use Rattle.std.proofs.Common.{◌≡◌, ◌≤◌, nat_lt, filter, length, take}
use Rattle.entity_recs.specs.declared.rec.Rec.{Rec}
use Rattle.core_seats.proofs.near_kept.count_players.Given as goal

abbrev pub invariant-loop-r : goal.invariant-loop-r
invariant-loop-r l = record {
  count : l.count ≡ length (filter (λ (r : Rec). nat_lt r.id 64) (take l.r-index l.start));
  few : l.count ≤ l.r-index;
}
