-- How many items of a kind a walk gets, and what that changes.
use Rattle.std.proofs.Common.{◌≡◌, ◌⊎◌, ℕ, ◌+◌, ◌<◌, ◌≤◌, ◌==◌, Bool, true, false, ◌||◌, cond, List, [], ◌∷◌, fold, All, refl, sym, ap, ◌∙◌, subst, inl, inr, arith}
use Rattle.std.specs.Prelude.{count_by}
use Rattle.std.specs.List.{AllByRecursion, list_any}
use Rattle.std.proofs.lemmas.Bool.{and_from, and_left, and_right, eqb-true, eq-eqb, ne_eqb}
use Rattle.std.proofs.lemmas.List.Elements.{All-weaker}
use Rattle.std.proofs.lemmas.List.Folds.{list_any-append, list_any_none}
use Rattle.std.proofs.lemmas.List.Sums.{sum_by-cons}
use Rattle.arena_geo.specs.Bounds.{Bounds}
use Rattle.entity_recs.specs.declared.kind.Kind.{Kind}
use Rattle.entity_recs.specs.declared.rec.Rec.{Rec}
use Rattle.entity_recs.specs.Kinds.{number_of}
use Rattle.arena_map.specs.Maps.{MapView}
use Rattle.trigger_rules.specs.Touching.{Walk, after_trigger}
use Rattle.trigger_rules.specs.Laws.{is_got, count_got}
use Rattle.trigger_rules.proofs.Steps.{IsTake, IsGoal, IsLeap, Step, step}
use Rattle.trigger_rules.proofs.Taken.{Rises, IsBelow, below-step}

-- ---- which ids were got

-- the id was got
abbrev pub has : ℕ → List ℕ → Bool
has x got = list_any (λ id. id == x) got

no-more : (a b : Bool) → b ≡ false → (a || (b || false)) ≡ a
no-more true b none = refl
no-more false true none = none
no-more false false none = refl

one-more : (a b : Bool) → b ≡ true → (a || (b || false)) ≡ true
one-more true b some = refl
one-more false true some = refl
one-more false false some = some

-- an item with another id changes nothing of it
has-step : (map : MapView) (solids : List Bounds) (frame x : ℕ) (w next : Walk) (r : Rec) → Step map solids frame w r next → x < r.id → has x next.got ≡ has x w.got
has-step map solids frame x w next r (inl same) less = ap (λ (v : Walk). has x v.got) same
has-step map solids frame x w next r (inr (inl t)) less =
    ap (λ (v : Walk). has x v.got) t.is ∙ list_any-append (λ id. id == x) w.got (r.id ∷ [])
    ∙ no-more (has x w.got) (r.id == x) (ne_eqb r.id x (λ e. omega (arith, e, less)))
has-step map solids frame x w next r (inr (inr (inl goal))) less = ap (λ (v : Walk). has x v.got) goal.is
has-step map solids frame x w next r (inr (inr (inr l))) less = ap (λ (v : Walk). has x v.got) l.is

pub has-through : (map : MapView) (solids : List Bounds) (frame x n : ℕ) (w : Walk) (rs : List Rec) → x < n → Rises n rs → has x (fold (after_trigger map solids frame) w rs).got ≡ has x w.got
unfolding Rises
has-through map solids frame x n w [] less up = refl
has-through map solids frame x n w (r ∷ rs) less up =
    let next = after_trigger map solids frame w r in
    has-through map solids frame x (r.id + 1) next rs (omega (arith, less, up.0)) up.1 ∙ has-step map solids frame x w next r (step map solids frame w r) (omega (arith, less, up.0))

not-yet : (n x : ℕ) (got : List ℕ) → n ≤ x → All (λ g. g < n) got → has x got ≡ false
not-yet n x got less below =
    list_any_none (λ id. id == x) got (All-weaker (λ g. g < n) (λ g. (g == x) ≡ false) (λ g h. ne_eqb g x (λ e. omega (arith, e, h, less))) got below)

-- ---- counting

count-yes : (p : Rec → Bool) (r : Rec) (rs : List Rec) → p r ≡ true → count_by p (r ∷ rs) ≡ count_by p rs + 1
count-yes p r rs passes =
    let e : 1 + count_by p rs ≡ count_by p rs + 1 = omega arith in
    sum_by-cons (λ s. cond (p s) 1 0) r rs ∙ ap (λ (b : Bool). cond b 1 0 + count_by p rs) passes ∙ e

count-no : (p : Rec → Bool) (r : Rec) (rs : List Rec) → p r ≡ false → count_by p (r ∷ rs) ≡ count_by p rs
count-no p r rs fails =
    let e : 0 + count_by p rs ≡ count_by p rs = omega arith in
    sum_by-cons (λ s. cond (p s) 1 0) r rs ∙ ap (λ (b : Bool). cond b 1 0 + count_by p rs) fails ∙ e

-- what a record changes that isn't an item of this kind that is taken
abbrev pub IsOther : Kind → MapView → List Bounds → ℕ → Walk → Rec → Walk → Type 0
IsOther kind map solids frame w r next =
    (next ≡ w) ⊎ ((IsTake map frame w r next × ((number_of r.kind == number_of kind) ≡ false)) ⊎ (IsGoal w r next ⊎ IsLeap map solids w r next))

-- what each item of a kind changes between a walk and its end, and nothing else
module _ (map : MapView) (solids : List Bounds) (frame : ℕ) (kind : Kind) (Q : Rec → Type 0)
    (Counts : ℕ → Walk → Walk → Type 0)
    (more : (w next : Walk) (r : Rec) → IsTake map frame w r next → number_of r.kind ≡ number_of kind → (c : ℕ) (final : Walk) → Counts c next final → Counts (c + 1) w final)
    (same : (w next : Walk) (r : Rec) → Q r → IsOther kind map solids frame w r next → (c : ℕ) (final : Walk) → Counts c next final → Counts c w final) where
  -- a record that takes nothing of this kind isn't counted
  uncounted : (w final : Walk) (r : Rec) (rs : List Rec) → is_got kind final r ≡ false → Counts (count_got kind rs final) w final → Counts (count_got kind (r ∷ rs) final) w final
  uncounted w final r rs fails is = subst (λ (c : ℕ). Counts c w final) (sym (count-no (is_got kind final) r rs fails)) is

  counted-step : (n : ℕ) (w next final : Walk) (r : Rec) (rs : List Rec) → Step map solids frame w r next → Q r → n ≤ r.id → IsBelow n w.got → has r.id final.got ≡ has r.id next.got
      → Counts (count_got kind rs final) next final → Counts (count_got kind (r ∷ rs) final) w final
  counted-step n w next final r rs (inl e) q low is kept counts =
      uncounted w final r rs
      (and_right (number_of r.kind == number_of kind) (has r.id final.got) (kept ∙ ap (λ (v : Walk). has r.id v.got) e ∙ not-yet n r.id w.got low is.below)) (same w next r q (inl e) (count_got kind rs final) final counts)
  counted-step n w next final r rs (inr (inl t)) q low is kept counts = by (number_of r.kind == number_of kind) refl
    where
      got : has r.id final.got ≡ true
      got = kept ∙ ap (λ (v : Walk). has r.id v.got) t.is ∙ list_any-append (λ id. id == r.id) w.got (r.id ∷ []) ∙ one-more (has r.id w.got) (r.id == r.id) (eq-eqb r.id r.id refl)

      by : (b : Bool) → (number_of r.kind == number_of kind) ≡ b → Counts (count_got kind (r ∷ rs) final) w final
      by true e =
          subst (λ (c : ℕ). Counts c w final) (sym (count-yes (is_got kind final) r rs (and_from (number_of r.kind == number_of kind) (has r.id final.got) e got)))
          (more w next r t (eqb-true (number_of r.kind) (number_of kind) e) (count_got kind rs final) final counts)
      by false e = uncounted w final r rs (and_left (number_of r.kind == number_of kind) (has r.id final.got) e) (same w next r q (inr (inl (t, e))) (count_got kind rs final) final counts)
  counted-step n w next final r rs (inr (inr (inl goal))) q low is kept counts =
      uncounted w final r rs
      (and_right (number_of r.kind == number_of kind) (has r.id final.got) (kept ∙ ap (λ (v : Walk). has r.id v.got) goal.is ∙ not-yet n r.id w.got low is.below))
      (same w next r q (inr (inr (inl goal))) (count_got kind rs final) final counts)
  counted-step n w next final r rs (inr (inr (inr l))) q low is kept counts =
      uncounted w final r rs
      (and_right (number_of r.kind == number_of kind) (has r.id final.got) (kept ∙ ap (λ (v : Walk). has r.id v.got) l.is ∙ not-yet n r.id w.got low is.below))
      (same w next r q (inr (inr (inr l))) (count_got kind rs final) final counts)

  pub counted-between : (n : ℕ) (w : Walk) (rs : List Rec) → Rises n rs → IsBelow n w.got → AllByRecursion Q rs
      → let final = fold (after_trigger map solids frame) w rs in Counts 0 final final → Counts (count_got kind rs final) w final
  unfolding Rises
  counted-between n w [] up is all none = none
  counted-between n w (r ∷ rs) up is all none =
      let f = after_trigger map solids frame in
      let next = f w r in
      let at = step map solids frame w r in
      counted-step n w next (fold f next rs) r rs at all.0 up.0 is (has-through map solids frame r.id (r.id + 1) next rs (omega arith) up.1)
      (counted-between (r.id + 1) next rs up.1 (below-step map solids frame n w next r at up.0 is) all.1 none)

-- a measure of walks that each item of a kind changes, and nothing else
module _ (map : MapView) (solids : List Bounds) (frame : ℕ) (kind : Kind) (Q : Rec → Type 0)
    (measure : Walk → ℕ) (Counts : ℕ → ℕ → ℕ → Type 0)
    (more : (w next : Walk) (r : Rec) → IsTake map frame w r next → number_of r.kind ≡ number_of kind → (c y : ℕ) → Counts c (measure next) y → Counts (c + 1) (measure w) y)
    (same : (w next : Walk) (r : Rec) → Q r → IsOther kind map solids frame w r next → measure next ≡ measure w) where
  pub counted : (n : ℕ) (w : Walk) (rs : List Rec) → Rises n rs → IsBelow n w.got → AllByRecursion Q rs
      → let final = fold (after_trigger map solids frame) w rs in Counts 0 (measure final) (measure final) → Counts (count_got kind rs final) (measure w) (measure final)
  counted n w rs up is all none =
      counted-between map solids frame kind Q (λ c u v. Counts c (measure u) (measure v))
      (λ u next r t own c final counts. more u next r t own c (measure final) counts)
      (λ u next r q other c final counts. subst (λ (x : ℕ). Counts c x (measure final)) (same u next r q other) counts)
      n w rs up is all none

-- any record
pub each : (rs : List Rec) → AllByRecursion (λ (r : Rec). Unit {0}) rs
each [] = tt
each (r ∷ rs) = (tt, each rs)
