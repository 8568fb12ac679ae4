-- Lines printed in turn through a buffer.
use Rattle.std.specs.Result.{OnOk, OnErr}
use Rattle.std.proofs.Common.{false, true, Result, Ok, Err, ◌≡◌, ℕ, suc, ◌+◌, ◌<◌, ◌≤◌, List, [], ◌∷◌, ◌++◌, length, take, get_or, drop, map, Option, refl, sym, ap, ◌∙◌, subst, append_assoc, append-nil, arith, length-append, drop-cons, add-one}
use Rattle.std.specs.Io.KnownBytes.{Appends}
use Rattle.std.proofs.lemmas.Grind.{flat_map-append}
use Rattle.std.proofs.KnownBytes.{Appends-nil, Appends-trans}
use Rattle.std.proofs.lemmas.List.{take-append-le}
use lib.Seq.{take-append-add}
use Rattle.edge_io.specs.Counts.{HasRisen}
use Rattle.out_text.specs.OutLines.{OutLine, ToLine, printed_line, text_of}
use Rattle.out_text.specs.FrameLines.{reply_lines}
use Rattle.out_text.specs.Printers.{Prints, FailsIn}

-- what holds where there is an error
pub on_err : {X E : Type 0} (r : Result X E) (P : Type 0) → P → OnErr r P
on_err (Ok x) P p = tt
on_err (Err e) P p = p

-- an error is no success
pub not_failed : {P : Type 0} → false ≡ true → P
not_failed h = cc

-- a front of a text was printed, and this is left of it
pub record IsPrinting {S : Type 0} (taken : S → Option (List ℕ)) (faults room : S → ℕ) (old new : S) (before pending all rest : List ℕ) : Type 0 where
  pub done : List ℕ
  pub prints : Prints taken faults room old new before pending done
  pub left : done ++ rest ≡ all

module _ {S : Type 0} (taken : S → Option (List ℕ)) (faults room : S → ℕ) where
  -- nothing was printed yet
  pub prints_nothing : (a : S) (before : List ℕ) → Prints taken faults room a a before before []
  prints_nothing a before = record { written = []; appended = Appends-nil (taken a); whole = append-nil before; uncounted = refl; roomy = omega arith }

  pub begins_printing : (a : S) (before all text rest : List ℕ) → all ≡ text ++ rest → IsPrinting taken faults room a a before before all (text ++ rest)
  begins_printing a before all text rest is = record { done = []; prints = prints_nothing a before; left = sym is }

  -- one text after another
  pub prints_both : (a b c : S) (p q r t u : List ℕ) → Prints taken faults room a b p q t → Prints taken faults room b c q r u → Prints taken faults room a c p r (t ++ u)
  prints_both a b c p q r t u first then = record {
    written = first.written ++ then.written;
    appended = Appends-trans (taken a) (taken b) (taken c) first.written then.written first.appended then.appended;
    whole = sym (append_assoc p t u) ∙ ap (λ l. l ++ u) first.whole ∙ append_assoc first.written q u ∙ ap (λ l. first.written ++ l) then.whole ∙ sym (append_assoc first.written then.written r);
    uncounted = then.uncounted ∙ first.uncounted;
    roomy = omega (arith, first.roomy, then.roomy, length-append first.written then.written);
  }

  -- a text more
  pub prints_more : (a b c : S) (p q r t all rest : List ℕ) → IsPrinting taken faults room a b p q all (t ++ rest) → Prints taken faults room b c q r t
      → IsPrinting taken faults room a c p r all rest
  prints_more a b c p q r t all rest so_far more = record {
    done = so_far.done ++ t;
    prints = prints_both a b c p q r so_far.done t so_far.prints more;
    left = append_assoc so_far.done t rest ∙ so_far.left;
  }

  -- all was printed
  pub prints_all : (a b : S) (p q all : List ℕ) → IsPrinting taken faults room a b p q all [] → Prints taken faults room a b p q all
  prints_all a b p q all so_far = subst (Prints taken faults room a b p q) (sym (append-nil so_far.done) ∙ so_far.left) so_far.prints

  -- a part of a text is a part of a longer one
  pub fails_longer : (a b : S) (t u : List ℕ) → FailsIn taken faults a b t → FailsIn taken faults a b (t ++ u)
  fails_longer a b t u fails =
      let part = fails.part in
      let within : part.count ≤ length t = omega (arith, part.part) in
      record {
        part = record {
          count = part.count;
          part = omega (arith, part.part, length-append t u);
          appended = subst (Appends (taken a) (taken b)) (sym (take-append-le part.count t u within)) part.appended;
        };
        risen = fails.risen;
        later = fails.later;
      }

  -- a write failed after a text was printed
  pub fails_then : (a b c : S) (p q t u : List ℕ) → Prints taken faults room a b p q t → FailsIn taken faults b c (q ++ u) → FailsIn taken faults a c (p ++ (t ++ u))
  fails_then a b c p q t u first fails =
      let part = fails.part in
      let w = first.written in
      let whole : p ++ (t ++ u) ≡ w ++ (q ++ u) = sym (append_assoc p t u) ∙ ap (λ l. l ++ u) first.whole ∙ append_assoc w q u in
      let front : take (length w + part.count) (p ++ (t ++ u)) ≡ w ++ take part.count (q ++ u) = ap (take (length w + part.count)) whole ∙ take-append-add w (q ++ u) part.count in
      record {
        part = record {
          count = length w + part.count;
          part = omega (arith, part.part, ap length whole, length-append w (q ++ u));
          appended = subst (Appends (taken a) (taken c)) (sym front) (Appends-trans (taken a) (taken b) (taken c) w (take part.count (q ++ u)) first.appended part.appended);
        };
        risen = subst (λ n. HasRisen n (faults c)) first.uncounted fails.risen;
        later = subst (λ n. n ≤ faults c) first.uncounted fails.later;
      }

  -- a write failed while a text was printed
  pub fails_at : (a b c : S) (p q t all rest : List ℕ) → IsPrinting taken faults room a b p q all (t ++ rest) → FailsIn taken faults b c (q ++ t) → FailsIn taken faults a c (p ++ all)
  fails_at a b c p q t all rest so_far fails =
      let longer = fails_longer a c (p ++ (so_far.done ++ t)) rest (fails_then a b c p q so_far.done t so_far.prints fails) in
      let is : (p ++ (so_far.done ++ t)) ++ rest ≡ p ++ all =
      append_assoc p (so_far.done ++ t) rest ∙ ap (λ l. p ++ l) (append_assoc so_far.done t rest ∙ so_far.left) in
      subst (FailsIn taken faults a c) is longer

  -- where the sink has room for all, it has room for a text of it
  pub has_room : (a b : S) (p q t all rest : List ℕ) → IsPrinting taken faults room a b p q all (t ++ rest) → length p + length all ≤ room a → length q + length t ≤ room b
  has_room a b p q t all rest so_far fits =
      let done = so_far.prints in
      omega (
        arith,
        fits,
        done.roomy,
        ap length done.whole,
        length-append p so_far.done,
        length-append done.written q,
        ap length so_far.left,
        length-append so_far.done (t ++ rest),
        length-append t rest,
      )

  -- the last text of all was printed, or a write failed in it
  pub prints_last : {X E : Type 0} (res : Result X E) (a b c : S) (p q r t all : List ℕ) → IsPrinting taken faults room a b p q all (t ++ []) → OnOk res (Prints taken faults room b c q r t)
      → OnOk res (Prints taken faults room a c p r all)
  prints_last (Ok x) a b c p q r t all so_far last = prints_all a c p r all (prints_more a b c p q r t all [] so_far last)
  prints_last (Err e) a b c p q r t all so_far last = tt

  pub fails_last : {X E : Type 0} (res : Result X E) (a b c : S) (p q t all : List ℕ) → IsPrinting taken faults room a b p q all (t ++ []) → OnErr res (FailsIn taken faults b c (q ++ t))
      → OnErr res (FailsIn taken faults a c (p ++ all))
  fails_last (Ok x) a b c p q t all so_far last = tt
  fails_last (Err e) a b c p q t all so_far last = fails_at a b c p q t all [] so_far last

-- what is left of things of which a line each is printed
pub left_of_each : {X : Type 0} (f : X → OutLine) (xs : List X) (i : ℕ) (d : X) → i < length xs → text_of (map f (drop i xs)) ≡ printed_line (f (get_or xs i d)) ++ text_of (map f (drop (i + 1) xs))
left_of_each f xs i d inside =
    let next : drop (i + 1) xs ≡ drop (suc i) xs = rw add-one refl in
    ap (λ l. text_of (map f l)) (drop-cons xs i d inside) ∙ ap (λ l. printed_line (f (get_or xs i d)) ++ text_of (map f l)) (sym next)

-- what is left of replies
pub left_of_replies : (slots : List ℕ) (replies : List (List ℕ)) (i d : ℕ) (e : List ℕ) → i < length slots → length slots ≡ length replies
    → text_of (reply_lines (drop i slots) (drop i replies)) ≡ printed_line (ToLine (get_or slots i d) (get_or replies i e)) ++ text_of (reply_lines (drop (i + 1) slots) (drop (i + 1) replies))
left_of_replies slots replies i d e inside same =
    let inside' : i < length replies = omega (arith, inside, same) in
    let next : drop (i + 1) slots ≡ drop (suc i) slots = rw add-one refl in
    let next' : drop (i + 1) replies ≡ drop (suc i) replies = rw add-one refl in
    (λ k. text_of (reply_lines (drop-cons slots i d inside k) (drop-cons replies i e inside' k)))
    ∙ (λ k. printed_line (ToLine (get_or slots i d) (get_or replies i e)) ++ text_of (reply_lines (sym next k) (sym next' k)))

-- the text of four lists of lines
pub text_of-answers : (a b c d : List OutLine) → text_of (a ++ b ++ c ++ d) ≡ text_of a ++ (text_of b ++ (text_of c ++ (text_of d ++ [])))
text_of-answers a b c d =
    flat_map-append printed_line (a ++ b ++ c) d
    ∙ ap (λ l. l ++ text_of d) (flat_map-append printed_line (a ++ b) c ∙ ap (λ l. l ++ text_of c) (flat_map-append printed_line a b))
    ∙ append_assoc (text_of a ++ text_of b) (text_of c) (text_of d)
    ∙ append_assoc (text_of a) (text_of b) (text_of c ++ text_of d)
    ∙ ap (λ l. text_of a ++ (text_of b ++ (text_of c ++ l))) (sym (append-nil (text_of d)))

-- of a line and two lists
pub text_of-three : (first : OutLine) (a b : List OutLine) → text_of (first ∷ (a ++ b)) ≡ printed_line first ++ (text_of a ++ (text_of b ++ []))
text_of-three first a b = ap (λ l. printed_line first ++ l) (flat_map-append printed_line a b ∙ ap (λ l. text_of a ++ l) (sym (append-nil (text_of b))))
