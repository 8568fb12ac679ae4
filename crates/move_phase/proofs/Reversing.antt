-- A list that is made from the end of another one.
use Rattle.std.proofs.Common.{◌≡◌, ◌⊎◌, ℕ, ◌+◌, ◌-◌, ◌<◌, ◌≤◌, List, [], ◌∷◌, ◌++◌, length, take, get_or, inl, inr, sym, ap, ◌∙◌, subst, length-append, get_or-take, take-take, arith}
use Rattle.std.specs.Prelude.{All}
use Rattle.std.proofs.lemmas.Bool.{cases_lt}
use Rattle.std.proofs.lemmas.List.{take_all, get_or_append_left, get_or-append-add, take-append-le}
use Rattle.move_phase.specs.Turns.{AreReversed}

module _ {A B : Type 0} (related : A → B → Type 0) where
  -- the rest is still to be taken from the end, and what was taken was put last one by one
  pub record IsReversing (xs rest : List A) (made : List B) : Type 0 where
    pub count : length rest + length made ≡ length xs
    pub rest_is : rest ≡ take (length rest) xs
    pub each : (i : ℕ) (d : A) (e : B) → i < length made → related (get_or xs (length xs - 1 - i) d) (get_or made i e)

  -- nothing is taken
  pub none_taken : (xs : List A) (made : List B) → made ≡ [] → IsReversing xs xs made
  none_taken xs made none =
      let empty : length made ≡ 0 = ap length none in
      record {
        count = omega (arith, empty);
        rest_is = sym (take_all (length xs) xs (omega arith));
        each = λ i d e within. absurd (omega (arith, empty, within));
      }

  module _ (xs rest left : List A) (made : List B) (x : A) (so_far : IsReversing xs rest made) (last : rest ≡ left ++ x ∷ []) where
    longer : length rest ≡ length left + 1
    longer = ap length last ∙ length-append left (x ∷ [])

    -- what is taken stood at its place
    taken_from : (d : A) → get_or xs (length left) d ≡ x
    taken_from d =
        sym (get_or-take (length rest) xs (length left) d (omega (arith, longer)))
        ∙ ap (λ (zs : List A). get_or zs (length left) d) (sym so_far.rest_is ∙ last)
        ∙ ap (λ (k : ℕ). get_or (left ++ x ∷ []) k d) (sym (plus_zero (length left)))
        ∙ get_or-append-add left (x ∷ []) 0 d
      where
        plus_zero : (n : ℕ) → n + 0 ≡ n
        plus_zero n = omega arith

    -- what holds of all holds of it
    pub holds_of_taken : (P : A → Type 0) → All P xs → P x
    holds_of_taken P all =
        let c = so_far.count in
        subst P (taken_from x) (all (length left) x (omega (arith, c, longer)))

    module _ (y : B) (is : related x y) where
      -- one more is taken
      pub one_taken : IsReversing xs left (made ++ y ∷ [])
      one_taken = record {
        count = let grown = length-append made (y ∷ []) in let c = so_far.count in omega (arith, grown, longer, c);
        rest_is =
            sym (take_all (length left) left (omega arith)) ∙ sym (take-append-le (length left) left (x ∷ []) (omega arith))
            ∙ ap (take (length left)) (sym last ∙ so_far.rest_is) ∙ take-take (length left) (length rest) xs (omega (arith, longer));
        each = λ i d e within. by i d e within (cases_lt i (length made));
      }
        where
          by : (i : ℕ) (d : A) (e : B) → i < length (made ++ y ∷ []) → (i < length made) ⊎ (length made ≤ i)
              → related (get_or xs (length xs - 1 - i) d) (get_or (made ++ y ∷ []) i e)
          by i d e within (inl before) =
              subst (related (get_or xs (length xs - 1 - i) d)) (sym (get_or_append_left made (y ∷ []) e i before)) (so_far.each i d e before)
          by i d e within (inr after) =
              let grown = length-append made (y ∷ []) in
              let here : i ≡ length made + 0 = omega (arith, grown, within, after) in
              let c = so_far.count in
              let place : length xs - 1 - i ≡ length left = omega (arith, here, c, longer) in
              let from : get_or xs (length xs - 1 - i) d ≡ x = ap (λ (k : ℕ). get_or xs k d) place ∙ taken_from d in
              let to : get_or (made ++ y ∷ []) i e ≡ y = ap (λ (k : ℕ). get_or (made ++ y ∷ []) k e) here ∙ get_or-append-add made (y ∷ []) 0 e in
              subst (λ (a : A). related a (get_or (made ++ y ∷ []) i e)) (sym from) (subst (related x) (sym to) is)

  -- all are taken
  pub all_taken : (xs rest : List A) (made : List B) → IsReversing xs rest made → length rest ≡ 0 → AreReversed related xs made
  all_taken xs rest made so_far none =
      let c = so_far.count in
      record {
        count = omega (arith, c, none);
        each = λ i d e within. so_far.each i d e (omega (arith, c, none, within));
      }
