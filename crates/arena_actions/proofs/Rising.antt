-- Ids that rise are few.
use Rattle.std.proofs.Common.{◌≡◌, ℕ, zero, suc, ◌+◌, ◌<◌, ◌≤◌, List, [], ◌∷◌, length, slice_index, map, All, ap, ◌∙◌, subst, arith}
use Rattle.std.specs.List.Sorted.{IsStrictlyIncreasing}
use Rattle.std.proofs.lemmas.List.{length-map}
use Rattle.std.proofs.lemmas.List.Elements.{All-get_or, All-map, All-weaker}
use Rattle.entity_recs.specs.declared.limits.TheConstants.{IDS}
use Rattle.entity_recs.specs.declared.rec.Rec.{Rec}
use Rattle.entity_recs.specs.Records.{IsRecord}
use Rattle.entity_recs.proofs.Ids.{id_in}

-- a number of a list that rises is at least its place
rises : (xs : List ℕ) (k : ℕ) → IsStrictlyIncreasing xs → k < length xs → k ≤ slice_index xs k
rises xs zero rise below = omega arith
rises xs (suc k) rise below =
    let before = rises xs k rise (omega arith) in
    let e : k + 1 ≡ suc k = omega arith in
    let more : slice_index xs k < slice_index xs (k + 1) = rise k (omega arith) in
    let next : slice_index xs k < slice_index xs (suc k) = subst (λ (j : ℕ). slice_index xs k < slice_index xs j) e more in
    omega (arith, before, next)

-- records in rising id are no more than there are ids
pub few_records : (near : List Rec) → All IsRecord near → IsStrictlyIncreasing (map (λ r. r.id) near) → length near ≤ IDS
few_records [] records rise = omega arith
few_records (r ∷ near) records rise =
    let ids = map (λ (s : Rec). s.id) (r ∷ near) in
    let long : length ids ≡ length near + 1 = ap suc (length-map near (λ (s : Rec). s.id)) ∙ add_one (length near) in
    let last : length near ≤ slice_index ids (length near) = rises ids (length near) rise (omega (arith, long)) in
    let small : slice_index ids (length near) < IDS =
    All-get_or (λ (id : ℕ). id < IDS) ids (length near) 0 (omega (arith, long))
    (All-map (λ (id : ℕ). id < IDS) (λ (s : Rec). s.id) (r ∷ near) (All-weaker IsRecord (λ (s : Rec). s.id < IDS) (λ s is. id_in s.kind s.id is.id) (r ∷ near) records)) in
    omega (arith, last, small)
  where
    add_one : (n : ℕ) → suc n ≡ n + 1
    add_one n = omega arith
