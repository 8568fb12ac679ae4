-- What the leader has handed over, and has again.
use Rattle.std.proofs.Common.{◌≡◌, ℕ, List, [], ◌∷◌, Option, Some, suc, map, length, get_or, sym, ap, subst, ◌∙◌, arith}
use Rattle.std.proofs.lemmas.Option.{same_Some}
use Rattle.atomic_table.specs.Table.{Me}
use Rattle.crew.specs.declared.view.View.{View}
use Rattle.crew.specs.Plays.{IsFreeWith, HasGiven, IsFree, IsRested, IsBack, IsChanged}

not_one : ◌≡◌ {A = ℕ} 0 1 → ⊥
not_one e = omega arith

module _ {T : Type 0} where
  one_place : (l : List (ℕ × T)) → map (λ p. p.0) l ≡ 0 ∷ [] → (x : T) × (l ≡ (0, x) ∷ [])
  one_place [] e = absurd (not_one (ap length e))
  one_place (p ∷ []) e = let zero_is : p.0 ≡ 0 = ap (λ (l : List ℕ). get_or l 0 0) e in (p.1, λ i. (zero_is i, p.1) ∷ [])
  one_place (p ∷ q ∷ l) e = let n : suc (suc (length (map (λ (r : ℕ × T). r.0) l))) ≡ 1 = ap length e in absurd (omega arith)

  pub free_from_rested : (me : Me T (View T)) → IsRested me → IsFree me
  free_from_rested me r = let t = one_place me.1 r.1 in record { kept = t.0; is = λ i. (r.0 i, t.1 i) }

  pub rested_from_free : (me : Me T (View T)) → IsFree me → IsRested me
  rested_from_free me f = (ap (λ (m : Me T (View T)). m.0) f.is, ap (λ (m : Me T (View T)). map (λ p. p.0) m.1) f.is)

  free_same : (me : Me T (View T)) (x y : T) → IsFreeWith x me → IsFreeWith y me → x ≡ y
  free_same me x y p q = ap (λ (m : Me T (View T)). (get_or m.1 0 (0, x)).1) (sym p ∙ q)

  given_same : (me : Me T (View T)) (x y : T) → HasGiven x me → me.0.item ≡ Some y → x ≡ y
  given_same me x y p q = same_Some x y (sym (ap (λ (m : Me T (View T)). m.0.item) p) ∙ q)

  -- what was taken back unrun is what was handed over
  pub back_is : (me w : Me T (View T)) (x z : T) → HasGiven x me → IsBack me.0.item w → IsFreeWith z w → x ≡ z
  back_is me w x z p b q = given_same me x b.item p b.given_is ∙ free_same w b.item z b.free q

  pub back_is_free : (given : Option T) (w : Me T (View T)) → IsBack given w → IsFree w
  back_is_free given w b = record { kept = b.item; is = b.free }

  module _ (changes : T → T → Type 0) where
    -- what was taken back changed is a change of it
    pub changed_is : (me w : Me T (View T)) (x z : T) → HasGiven x me → IsChanged changes me.0.item w → IsFreeWith z w → changes x z
    changed_is me w x z p c q = subst (λ (y : T). changes x y) (free_same w c.after z c.free q)
        (subst (λ (y : T). changes y c.after) (sym (given_same me x c.before p c.given_is)) c.changed)

    pub changed_is_free : (given : Option T) (w : Me T (View T)) → IsChanged changes given w → IsFree w
    changed_is_free given w c = record { kept = c.after; is = c.free }
