use Rattle.std.proofs.Common.{◌≡◌, ◌<◌, ℕ, map, take}
use Rattle.areanode.specs.Words.{has_bit}
use Rattle.core_steps.specs.Nodes.{has}
use Rattle.entity_recs.specs.declared.rec.Rec.{Rec}
use Rattle.core_seats.proofs.near_kept.player_bits.Given as goal

abbrev pub invariant-loop-r : goal.invariant-loop-r
invariant-loop-r l = (slot : ℕ) → slot < 64
    → has_bit l.word slot ≡ has (map (λ (r : Rec). r.id) (take l.r-index l.start)) slot
