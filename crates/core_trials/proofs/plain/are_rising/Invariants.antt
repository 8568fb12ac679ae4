use Rattle.std.proofs.Common.{ℕ, ◌+◌, ◌<◌, ◌≤◌, length, map, get_or}
use Rattle.entity_recs.specs.declared.rec.Rec.{Rec}
use Rattle.core_trials.proofs.plain.are_rising.Given as goal

abbrev pub invariant-loop-i : goal.invariant-loop-i
invariant-loop-i l = record {
  least : 1 ≤ l.i;
  rising : (k : ℕ) → k + 1 < l.i → k + 1 < length l.records → get_or (map (λ (r : Rec). r.id) l.records) k 0 < get_or (map (λ (r : Rec). r.id) l.records) (k + 1) 0;
}
