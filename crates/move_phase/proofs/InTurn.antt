-- Passes that serve one after another.
use Rattle.std.proofs.Common.{◌≡◌, ◌≢◌, ◌⊎◌, ℕ, zero, suc, ◌+◌, ◌<◌, ◌≤◌, List, [], ◌∷◌, length, get_or, slice_set, inl, inr, refl, sym, ◌∙◌, subst, length-set, get_or-set_same, get_or-set_other, arith}
use Rattle.std.proofs.lemmas.Bool.{cases_eq}
use Rattle.entity_recs.specs.Commands.{Command}
use Rattle.arena_actions.specs.declared.map_action.MapAction.{MapAction}
use Rattle.ruled_words.specs.Passes.{PassView, TableView}
use Rattle.crew.specs.Rounds.{ChangesEach}
use Rattle.move_phase.specs.Turns.{HasServedOn}

-- what stands at a place of a list doesn't depend on what would stand after its end
same_at : {X : Type 0} → (xs : List X) (i : ℕ) (d e : X) → i < length xs → get_or xs i d ≡ get_or xs i e
same_at [] i d e within = absurd (omega (arith, within))
same_at (x ∷ xs) zero d e within = refl
same_at (x ∷ xs) (suc i) d e within = same_at xs i d e (omega (arith, within))

module _ (commands : List Command) (table : TableView MapAction) where
  -- those before this place have served, and the others are as they were
  pub record HaveServedBelow (i : ℕ) (old now : List PassView) : Type 0 where
    pub count : length now ≡ length old
    pub served : (k : ℕ) (d : PassView) → k < i → HasServedOn commands table (get_or old k d) (get_or now k d)
    pub same : (k : ℕ) (d : PassView) → i ≤ k → get_or now k d ≡ get_or old k d

  -- one more has served
  pub one_more : (i : ℕ) (old now : List PassView) (p : PassView) → i < length now → HaveServedBelow i old now
      → ((d : PassView) → HasServedOn commands table (get_or now i d) p) → HaveServedBelow (i + 1) old (slice_set now i p)
  one_more i old now p within so_far serves = record {
    count = length-set now i p ∙ so_far.count;
    served = λ k d below. by k d below (cases_eq k i);
    same = λ k d above.
        let apart : k ≢ i = omega (arith, above) in
        get_or-set_other now i k p d apart ∙ so_far.same k d (omega (arith, above));
  }
    where
      by : (k : ℕ) (d : PassView) → k < i + 1 → (k ≡ i) ⊎ (k ≢ i) → HasServedOn commands table (get_or old k d) (get_or (slice_set now i p) k d)
      by k d below (inl here) =
          subst (λ (n : ℕ). HasServedOn commands table (get_or old n d) (get_or (slice_set now i p) n d)) (sym here)
          (subst (HasServedOn commands table (get_or old i d)) (sym (get_or-set_same now i p d within))
          (subst (λ (q : PassView). HasServedOn commands table q p) (so_far.same i d (omega arith)) (serves d)))
      by k d below (inr apart) =
          subst (HasServedOn commands table (get_or old k d)) (sym (get_or-set_other now i k p d apart)) (so_far.served k d (omega (arith, below, apart)))

  -- the same, by one of the ways to name the pass that it was
  pub next_served : (i : ℕ) (old now : List PassView) (was p : PassView) → i < length now → HaveServedBelow i old now
      → HasServedOn commands table (get_or now i was) p → HaveServedBelow (i + 1) old (slice_set now i p)
  next_served i old now was p within so_far serves =
      one_more i old now p within so_far (λ d. subst (λ (q : PassView). HasServedOn commands table q p) (same_at now i was d within) serves)

  -- all have
  pub all_more : (old now : List PassView) (i : ℕ) → i ≡ length old → HaveServedBelow i old now → ChangesEach (HasServedOn commands table) old now
  all_more old now i end so_far = record { count = so_far.count; each = λ k d within. so_far.served k d (omega (arith, end, within)) }
