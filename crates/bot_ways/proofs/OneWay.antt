-- There is one way to each waypoint.
use Rattle.std.proofs.Common.{◌≡◌, ℕ, ◌+◌, ◌⊎◌, List, [], ◌∷◌, ◌++◌, Option, Some, refl, sym, ◌∙◌, ap, subst, inl, inr, arith}
use Rattle.arena_map.specs.Maps.{MapView}
use Rattle.bot_ways.specs.Walks.{length_to}
use Rattle.bot_ways.specs.Ways.{IsBefore, IsLeastBefore, IsWay, start, next, IsCertificate}
use Rattle.bot_ways.specs.Laws.{WaysAreUnique}
use Rattle.bot_ways.proofs.EdgeParts.{edge_least, from_within}
use Rattle.bot_ways.proofs.Lengths.{same_length}

-- the way is that to the least waypoint before its end, and the end
record HasEnd (map : MapView) (least : List (Option ℕ)) (v : ℕ) (way : List ℕ) : Type 0 where
  u : ℕ
  front : List ℕ
  least_before : IsLeastBefore map least u v
  is_front : IsWay map least u front
  way_is : way ≡ front ++ v ∷ []

-- the way is that to waypoint 0
record IsStart (v : ℕ) (way : List ℕ) : Type 0 where
  end : v ≡ 0
  way_is : way ≡ 0 ∷ []

parts_of : (map : MapView) (least : List (Option ℕ)) (v : ℕ) (way : List ℕ) → IsWay map least v way
    → IsStart v way ⊎ HasEnd map least v way
parts_of map least _ _ start = inl (record { end = refl; way_is = refl })
parts_of map least _ _ (next u v way before front) =
    inr (record { u = u; front = way; least_before = before; is_front = front; way_is = refl })

-- nothing is before waypoint 0
none_before : (map : MapView) (least : List (Option ℕ)) (u v : ℕ) → IsCertificate map least → v ≡ 0 → IsBefore map least u v → ⊥
none_before map least u v cert zero_v b =
    let count = from_within map u v b.step b.edge_is in
    let started = cert.start (omega arith) in
    let at_zero = subst (λ (x : ℕ). length_to least x ≡ Some (b.here + b.step)) zero_v b.to in
    let none = same_length (length_to least 0) 0 (b.here + b.step) started at_zero in
    let positive = edge_least map u v b.step b.edge_is in
    absurd (omega arith)

unique : (map : MapView) (least : List (Option ℕ)) → IsCertificate map least → (v : ℕ) (one other : List ℕ)
    → IsWay map least v one → IsWay map least v other → one ≡ other
unique map least cert _ _ other start way = elim (parts_of map least 0 other way) [
  | inl s ↦ sym s.way_is
  | inr h ↦ absurd (none_before map least h.u 0 cert refl h.least_before.before)
]
unique map least cert _ _ other (next u v front before is_front) way = elim (parts_of map least v other way) [
  | inl s ↦ absurd (none_before map least u v cert s.end before.before)
  | inr h ↦
      let below = before.first h.u h.least_before.before in
      let above = h.least_before.first u before.before in
      let same : h.u ≡ u = omega arith in
      let same_front = unique map least cert u front h.front is_front (subst (λ (x : ℕ). IsWay map least x h.front) same h.is_front) in
      ap (λ (xs : List ℕ). xs ++ v ∷ []) same_front ∙ sym h.way_is
]

pub ways_are_unique : WaysAreUnique
ways_are_unique map least v one other cert p q = unique map least cert v one other p q
