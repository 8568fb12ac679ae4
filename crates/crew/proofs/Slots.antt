-- The slot that a seat holds, read and written.
use Rattle.std.proofs.Common.{◌≡◌, ℕ, List, [], ◌∷◌, get_or, sym, ap, ◌∙◌}
use Rattle.atomic_table.specs.Table.{Me, rest}

module _ {T V : Type 0} where
  -- a seat after a write into its slot
  abbrev written : Me T V → T → Me T V
  written me y = (me.0, (0, y) ∷ rest me.1)

  pub slot_of : (me : Me T V) (v : V) (x : T) → me ≡ (v, (0, x) ∷ []) → me.1 ≡ (0, x) ∷ rest me.1
  slot_of me v x e = let held : me.1 ≡ (0, x) ∷ [] = ap (λ (m : Me T V). m.1) e in held ∙ ap (λ (l : List (ℕ × T)). (0, x) ∷ rest l) (sym held)

  pub put_of : (me : Me T V) (v : V) (x y : T) → me ≡ (v, (0, x) ∷ []) → written me y ≡ (v, (0, y) ∷ [])
  put_of me v x y e = ap (λ (m : Me T V). written m y) e

  pub got_of : (me : Me T V) (v : V) (x y : T) → me ≡ (v, (0, x) ∷ []) → me.1 ≡ (0, y) ∷ rest me.1 → x ≡ y
  got_of me v x y e h = ap (λ (l : List (ℕ × T)). (get_or l 0 (0, x)).1) (sym (ap (λ (m : Me T V). m.1) e) ∙ h)
