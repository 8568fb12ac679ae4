-- What is due is printed, or a write fails in it.
use Rattle.std.proofs.Common.{◌≡◌, ℕ, ◌+◌, ◌≤◌, List, [], ◌++◌, length, Option, sym, ap, ◌∙◌, subst, append_assoc, append-nil, arith, length-append, Result, Ok, Err, OnOk, OnErr}
use Rattle.out_text.specs.OutLines.{OutLine, text_of}
use Rattle.out_text.specs.Printers.{Prints, FailsIn}
use Rattle.out_text.proofs.Buffering.{prints_both, fails_longer, fails_then}
use Rattle.out_text.proofs.Runs.{text_of-append}

-- what holds where there is no error, and where there is one
pub ok_then : {X E : Type 0} (r : Result X E) (P Q : Type 0) → OnOk r P → (P → Q) → OnOk r Q
ok_then (Ok x) P Q p f = f p
ok_then (Err e) P Q p f = tt

pub err_then : {X E : Type 0} (r : Result X E) (P Q : Type 0) → OnErr r P → (P → Q) → OnErr r Q
err_then (Ok x) P Q p f = tt
err_then (Err e) P Q p f = f p

module _ {S : Type 0} (taken : S → Option (List ℕ)) (faults room : S → ℕ) (xs ys : List OutLine) where
  -- all was printed, and then what was pending was written
  pub all_printed : (a b c d : S) (p q r : List ℕ) → Prints taken faults room a b p q (text_of xs) → Prints taken faults room b c q r (text_of ys) → Prints taken faults room c d r [] []
      → Prints taken faults room a d p [] (text_of (xs ++ ys))
  all_printed a b c d p q r first second last =
      let both = prints_both taken faults room a b c p q r (text_of xs) (text_of ys) first second in
      let all = prints_both taken faults room a c d p r [] (text_of xs ++ text_of ys) [] both last in
      subst (Prints taken faults room a d p []) (append-nil (text_of xs ++ text_of ys) ∙ sym (text_of-append xs ys)) all

  -- a write failed in the first part
  pub fails_in_first : (a b : S) (p : List ℕ) → FailsIn taken faults a b (p ++ text_of xs) → FailsIn taken faults a b (p ++ text_of (xs ++ ys))
  fails_in_first a b p fails =
      let longer = fails_longer taken faults room a b (p ++ text_of xs) (text_of ys) fails in
      let whole : (p ++ text_of xs) ++ text_of ys ≡ p ++ text_of (xs ++ ys) = append_assoc p (text_of xs) (text_of ys) ∙ ap (λ t. p ++ t) (sym (text_of-append xs ys)) in
      subst (FailsIn taken faults a b) whole longer

  -- in the second part
  pub fails_in_second : (a b c : S) (p q : List ℕ) → Prints taken faults room a b p q (text_of xs) → FailsIn taken faults b c (q ++ text_of ys)
      → FailsIn taken faults a c (p ++ text_of (xs ++ ys))
  fails_in_second a b c p q first fails =
      subst (λ t. FailsIn taken faults a c (p ++ t)) (sym (text_of-append xs ys)) (fails_then taken faults room a b c p q (text_of xs) (text_of ys) first fails)

  -- when both were printed
  pub fails_at_last : (a b c d : S) (p q r : List ℕ) → Prints taken faults room a b p q (text_of xs) → Prints taken faults room b c q r (text_of ys) → FailsIn taken faults c d r
      → FailsIn taken faults a d (p ++ text_of (xs ++ ys))
  fails_at_last a b c d p q r first second fails =
      let both = prints_both taken faults room a b c p q r (text_of xs) (text_of ys) first second in
      let last = fails_then taken faults room a c d p r (text_of xs ++ text_of ys) [] both (subst (FailsIn taken faults c d) (sym (append-nil r)) fails) in
      subst (λ t. FailsIn taken faults a d (p ++ t)) (append-nil (text_of xs ++ text_of ys) ∙ sym (text_of-append xs ys)) last

  -- where all of it has room, so has the second part
  pub room_for_second : (a b : S) (p q : List ℕ) → Prints taken faults room a b p q (text_of xs) → length p + length (text_of (xs ++ ys)) ≤ room a → length q + length (text_of ys) ≤ room b
  room_for_second a b p q first fits =
      let parts = ap length (text_of-append xs ys) in
      let same = ap length first.whole in
      omega (
        arith,
        fits,
        parts,
        same,
        first.roomy,
        length-append (text_of xs) (text_of ys),
        length-append p (text_of xs),
        length-append first.written q,
      )

  -- and so has what is pending when both were printed
  pub room_for_last : (a b c : S) (p q r : List ℕ) → Prints taken faults room a b p q (text_of xs) → Prints taken faults room b c q r (text_of ys) → length p + length (text_of (xs ++ ys)) ≤ room a
      → length r ≤ room c
  room_for_last a b c p q r first second fits =
      let here = room_for_second a b p q first fits in
      let same = ap length second.whole in
      omega (arith, here, same, second.roomy, length-append q (text_of ys), length-append second.written r)
