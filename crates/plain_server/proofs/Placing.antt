-- Records that are put in at the places of their ids, one after another.
use Rattle.std.proofs.Common.{◌≡◌, ℕ, ◌<◌, ◌==◌, true, false, nat_eq, List, [], ◌∷◌, length, fold, Option, Some, None, inl, inr, refl, sym, ap, ◌∙◌, subst, get_or-set_same, get_or-set_other}
use Rattle.std.specs.Prelude.{map as map_list}
use Rattle.std.specs.List.{find, IsDistinct, AllByRecursion}
use Rattle.std.proofs.lemmas.Bool.{cases_eq, eq-eqb, ne_eqb, cond-true, cond-false}
use Rattle.std.proofs.lemmas.List.{length-set}
use Rattle.entity_recs.specs.declared.rec.Rec.{Rec}
use Rattle.world_tree.specs.Live.{record_at}
use Rattle.plain_server.specs.RecordsById.{with_record_at}

-- there are as many places as before
pub placed-count : (rs : List Rec) (start : List (Option Rec)) → length (fold with_record_at start rs) ≡ length start
placed-count [] start = refl
placed-count (r ∷ rs) start = placed-count rs (with_record_at start r) ∙ length-set start r.id (Some r)

-- a place of an id that none of them has is as before
placed-other : (rs : List Rec) (start : List (Option Rec)) (id : ℕ) → AllByRecursion (λ n. nat_eq id n ≡ false) (map_list (λ (r : Rec). r.id) rs)
    → record_at (fold with_record_at start rs) id ≡ record_at start id
placed-other [] start id others = refl
placed-other (r ∷ rs) start id others =
    placed-other rs (with_record_at start r) id others.1 ∙ get_or-set_other start r.id id (Some r) None (λ same. differ (sym (eq-eqb id r.id same) ∙ others.0))
  where
    differ : true ≡ false → ⊥
    differ h = cc

-- a place that was empty has the record with its id, if there is one
pub placed-at : (rs : List Rec) (start : List (Option Rec)) (id : ℕ) → IsDistinct nat_eq (map_list (λ (r : Rec). r.id) rs) → AllByRecursion (λ r. r.id < length start) rs
    → record_at start id ≡ None → record_at (fold with_record_at start rs) id ≡ find (λ r. r.id == id) rs
unfolding IsDistinct
placed-at [] start id apart below none = none
placed-at (r ∷ rs) start id apart below none = elim (cases_eq id r.id) [
  | inl same ↦
      let Apart : ℕ → Type 0 = λ k. AllByRecursion (λ n. nat_eq k n ≡ false) (map_list (λ (x : Rec). x.id) rs) in
      placed-other rs (with_record_at start r) id (subst Apart (sym same) apart.0)
      ∙ ap (record_at (with_record_at start r)) same
      ∙ get_or-set_same start r.id (Some r) None below.0
      ∙ sym (cond-true (r.id == id) (Some r) (find (λ x. x.id == id) rs) (eq-eqb r.id id (sym same)))
  | inr other ↦
      let Below : ℕ → Type 0 = λ n. AllByRecursion (λ (x : Rec). x.id < n) rs in
      placed-at rs (with_record_at start r) id apart.1 (subst Below (sym (length-set start r.id (Some r))) below.1) (get_or-set_other start r.id id (Some r) None other ∙ none)
      ∙ sym (cond-false (r.id == id) (Some r) (find (λ x. x.id == id) rs) (ne_eqb r.id id (λ same. other (sym same))))
]
