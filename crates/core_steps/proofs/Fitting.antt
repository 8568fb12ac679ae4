-- A view has at most one list word for each node, one record for each slot and one state for each live id.
use Rattle.std.proofs.Common.{◌≡◌, ℕ, zero, suc, ◌^◌, ◌<◌, ◌≤◌, true, false, not, List, [], ◌∷◌, length, refl, sym, ap, ◌∙◌, subst, inl, inr, arith}
use Rattle.std.specs.Prelude.{◌==◌, filter}
use Rattle.std.proofs.lemmas.Bool.{cases_Bool, true≢false, eqb-true, eq-eqb, not-true, or_left, or_parts, cond-true, cond-false}
use Rattle.std.proofs.lemmas.List.{length-map}
use Rattle.core_steps.specs.Nodes.{has}
use Rattle.core_steps.specs.Points.{stage_of, is_whole}
use Rattle.core_steps.specs.Reads.{PlayerRead, region_in}
use Rattle.core_steps.specs.Stands.{AreDistinct}
use Rattle.core_steps.specs.Machine.{slots_of}
use Rattle.core_steps.specs.MachineLaws.{EachViewReadsLittle}
use Rattle.core_steps.proofs.Lists.{has_filter, distinct_filter}
use Rattle.core_steps.proofs.Planned.{leaf_nodes_length}

-- a list without a number is as long, where the number isn't there
none_less : (n : ℕ) (xs : List ℕ) → has xs n ≡ false → length (filter (λ v. not (v == n)) xs) ≡ length xs
none_less n [] none = refl
none_less n (x ∷ xs) none =
    let parts = or_parts (x == n) (has xs n) none in
    let rest = none_less n xs parts.1 in
    ap length (cond-true (not (x == n)) (x ∷ filter (λ v. not (v == n)) xs) (filter (λ v. not (v == n)) xs) (ap not parts.0)) ∙ ap suc rest

-- and else by one shorter at most, where no number is there twice
one_less : (n : ℕ) (xs : List ℕ) → AreDistinct xs → length xs ≤ suc (length (filter (λ v. not (v == n)) xs))
one_less n [] is = omega arith
one_less n (x ∷ xs) is = elim (cases_Bool (x == n)) [
  | inl same ↦
      let none : has xs n ≡ false = subst (λ (v : ℕ). has xs v ≡ false) (eqb-true x n same) is.0 in
      let rest = none_less n xs none in
      let less = ap length (cond-false (not (x == n)) (x ∷ filter (λ v. not (v == n)) xs) (filter (λ v. not (v == n)) xs) (ap not same)) in
      omega (arith, rest, less)
  | inr other ↦
      let rest = one_less n xs is.1 in
      let less = ap length (cond-true (not (x == n)) (x ∷ filter (λ v. not (v == n)) xs) (filter (λ v. not (v == n)) xs) (ap not other)) in
      omega (arith, rest, less)
]

-- there are at most n numbers below n, each once
pub few_below : (n : ℕ) (xs : List ℕ) → AreDistinct xs → ((v : ℕ) → has xs v ≡ true → v < n) → length xs ≤ n
few_below zero [] is below = omega arith
few_below zero (x ∷ xs) is below = let no = below x (or_left _ _ (eq-eqb x x refl)) in absurd (omega arith)
few_below (suc n) xs is below =
    let rest = few_below n (filter (λ v. not (v == n)) xs) (distinct_filter (λ v. not (v == n)) xs is) (λ v there.
    let kept = has_filter (λ v. not (v == n)) xs v there in
    let less = below v kept.listed in
    smaller v n less (λ same. true≢false (sym (eq-eqb v n same) ∙ not-true (v == n) kept.passes))) in
    let one = one_less n xs is in
    omega (arith, rest, one)
  where
    smaller : (v n : ℕ) → v < suc n → (v ≡ n → ⊥) → v < n
    smaller v n less other = omega (arith, other)

pub each_view_reads_little : EachViewReadsLittle
each_view_reads_little F m history now i is =
    let view = m.core.view i in
    let fits = is.fits i in
    let seat = is.core.seats i in
    let slots = few_below 64 (slots_of view.others) fits.once fits.below in
    let same = length-map view.others (λ (read : PlayerRead). read.slot) in
    record {
      wanted = elim (cases_Bool (is_whole (stage_of view.point))) [
        | inl whole ↦ subst (λ (leaves : List ℕ). length leaves ≤ 2 ^ F.tree.depth) (sym (seat.own.leaves whole)) (leaf_nodes_length F (region_in F view.cmd view.own))
        | inr part ↦ subst (λ (leaves : List ℕ). length leaves ≤ 2 ^ F.tree.depth) (sym (seat.own.none part)) (omega arith)
      ];
      lists = omega (arith, fits.few_lists);
      others = omega (arith, slots, same);
      states = omega (arith, fits.few_states);
    }
