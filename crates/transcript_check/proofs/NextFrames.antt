-- The frames of a recording, one after another.
use Rattle.std.proofs.Common.{◌≡◌, ℕ, zero, suc, ◌+◌, ◌≤◌, ◌<◌, List, [], ◌∷◌, ◌++◌, length, map, take, drop, get_or, Result, Ok, Err, IfOk, add-one, refl, sym, ap, ◌∙◌, arith}
use Rattle.std.specs.List.{AllByRecursion}
use Rattle.packet_read.specs.declared.arrival.Arrival.{Arrival}
use Rattle.transcript_check.specs.Verdicts.{IsShort}

pub if_ok-weaker : {A E : Type 0} (r : Result A E) (P Q : A → Type 0) → IfOk r P → ((a : A) → P a → Q a) → IfOk r Q
if_ok-weaker (Ok a) P Q p then = then a p
if_ok-weaker (Err e) P Q p then = tt

pub if_ok-both : {A E : Type 0} (r : Result A E) (P Q R : A → Type 0) → IfOk r P → IfOk r Q → ((a : A) → P a → Q a → R a) → IfOk r R
if_ok-both (Ok a) P Q R p q then = then a p q
if_ok-both (Err e) P Q R p q then = tt

module _ {X : Type 0} (f : X → List Arrival) where
  take-one : (xs : List X) (n : ℕ) (d : X) → n < length xs → take (suc n) (map f xs) ≡ take n (map f xs) ++ f (get_or xs n d) ∷ []
  take-one [] n d inside = absurd (omega (arith, inside))
  take-one (x ∷ xs) zero d inside = refl
  take-one (x ∷ xs) (suc n) d inside = ap (λ (fs : List (List Arrival)). f x ∷ fs) (take-one xs n d (omega (arith, inside)))

  -- the first frames with the next one
  pub take-next : (xs : List X) (n : ℕ) (d : X) (arrivals : List Arrival) → n < length xs → arrivals ≡ f (get_or xs n d) → take n (map f xs) ++ arrivals ∷ [] ≡ take (n + 1) (map f xs)
  take-next xs n d arrivals inside is =
      ap (λ (a : List Arrival). take n (map f xs) ++ a ∷ []) is ∙ sym (take-one xs n d inside) ∙ ap (λ k. take k (map f xs)) (sym (add-one n))

  all-one : (xs : List X) (n : ℕ) (d : X) → n < length xs → map f xs ≡ take n (map f xs) ++ f (get_or xs n d) ∷ drop (suc n) (map f xs)
  all-one [] n d inside = absurd (omega (arith, inside))
  all-one (x ∷ xs) zero d inside = refl
  all-one (x ∷ xs) (suc n) d inside = ap (λ (fs : List (List Arrival)). f x ∷ fs) (all-one xs n d (omega (arith, inside)))

  -- all are the first ones, the next one, and those after it
  pub all-next : (xs : List X) (n : ℕ) (d : X) (arrivals : List Arrival) → n < length xs → arrivals ≡ f (get_or xs n d) → map f xs ≡ take n (map f xs) ++ arrivals ∷ drop (suc n) (map f xs)
  all-next xs n d arrivals inside is =
      all-one xs n d inside ∙ ap (λ (a : List Arrival). take n (map f xs) ++ a ∷ drop (suc n) (map f xs)) (sym is)

  -- all are the first ones, where there are no more
  pub take-all : (xs : List X) (n : ℕ) → length xs ≤ n → take n (map f xs) ≡ map f xs
  take-all [] zero past = refl
  take-all [] (suc n) past = refl
  take-all (x ∷ xs) zero past = absurd (omega (arith, past))
  take-all (x ∷ xs) (suc n) past = ap (λ (fs : List (List Arrival)). f x ∷ fs) (take-all xs n (omega (arith, past)))

  -- the next one is short, where all are
  pub next-short : (xs : List X) (n : ℕ) (d : X) → n < length xs → AllByRecursion IsShort (map f xs) → IsShort (f (get_or xs n d))
  next-short [] n d inside short = absurd (omega (arith, inside))
  next-short (x ∷ xs) zero d inside short = short.0
  next-short (x ∷ xs) (suc n) d inside short = next-short xs n d (omega (arith, inside)) short.1
