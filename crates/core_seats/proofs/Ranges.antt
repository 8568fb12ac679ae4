-- The numbers of a range that pass a test.
use Rattle.std.proofs.Common.{◌≡◌, ℕ, zero, suc, ◌+◌, Bool, true, false, List, [], ◌∷◌, ◌++◌, map, append-nil, ap, ◌∙◌, arith}
use Rattle.std.specs.Prelude.{filter}
use Rattle.std.specs.List.{range_with_len}
use Rattle.std.proofs.lemmas.List.{map-append}
use Rattle.std.proofs.lemmas.List.Elements.{filter-append}
use Rattle.std.proofs.lemmas.Bool.{cond-true, cond-false}

range_more : (low n : ℕ) → range_with_len low (n + 1) ≡ range_with_len low n ++ (low + n) ∷ []
range_more low zero = let e : low ≡ low + 0 = omega arith in ap (λ (x : ℕ). x ∷ []) e
range_more low (suc n) =
    let e : (low + 1) + n ≡ low + suc n = omega arith in
    let shift : suc n + 1 ≡ suc (n + 1) = omega arith in
    ap (range_with_len low) shift ∙ ap (λ (xs : List ℕ). low ∷ xs) (range_more (low + 1) n ∙ ap (λ (x : ℕ). range_with_len (low + 1) n ++ x ∷ []) e)

range_next : (n : ℕ) → range_with_len 0 (n + 1) ≡ range_with_len 0 n ++ n ∷ []
range_next n = let e : 0 + n ≡ n = omega arith in range_more 0 n ∙ ap (λ (x : ℕ). range_with_len 0 n ++ x ∷ []) e

pub kept_more : (test : ℕ → Bool) (n : ℕ) → test n ≡ true
    → filter test (range_with_len 0 (n + 1)) ≡ filter test (range_with_len 0 n) ++ n ∷ []
kept_more test n passes =
    ap (filter test) (range_next n) ∙ filter-append test (range_with_len 0 n) (n ∷ [])
    ∙ ap (λ (xs : List ℕ). filter test (range_with_len 0 n) ++ xs) (cond-true (test n) (n ∷ []) [] passes)

pub kept_same : (test : ℕ → Bool) (n : ℕ) → test n ≡ false
    → filter test (range_with_len 0 (n + 1)) ≡ filter test (range_with_len 0 n)
kept_same test n fails =
    ap (filter test) (range_next n) ∙ filter-append test (range_with_len 0 n) (n ∷ [])
    ∙ ap (λ (xs : List ℕ). filter test (range_with_len 0 n) ++ xs) (cond-false (test n) (n ∷ []) [] fails)
    ∙ append-nil (filter test (range_with_len 0 n))

pub mapped_more : (f : ℕ → ℕ) (test : ℕ → Bool) (n : ℕ) → test n ≡ true
    → map f (filter test (range_with_len 0 (n + 1))) ≡ map f (filter test (range_with_len 0 n)) ++ f n ∷ []
mapped_more f test n passes =
    ap (map f) (kept_more test n passes) ∙ map-append f (filter test (range_with_len 0 n)) (n ∷ [])
