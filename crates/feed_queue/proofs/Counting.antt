-- The places of feeders: how many there are, and how they grow.
use Rattle.std.proofs.Common.{◌≡◌, ℕ, zero, suc, ◌+◌, ◌%◌, ◌==◌, ◌<◌, ◌≤◌, Bool, true, false, cond, List, [], ◌∷◌, ◌++◌, length, sym, refl, ap, ◌∙◌, subst, append-nil, length-append, arith, slice_index, ◌-◌}
use Rattle.std.proofs.lemmas.Bool.Decides.{nat_tests}
use Rattle.std.specs.List.{filter, range_with_len}
use Rattle.std.proofs.lemmas.List.Elements.{filter-append}
use Rattle.std.proofs.lemmas.List.FromFn.{length-range_with_len}
use Rattle.feed_queue.specs.Orders.{is_of, places_below}

-- the numbers below n + 1 are those below n, and n
one_more : (a n j : ℕ) → a + n ≡ j → range_with_len a (suc n) ≡ range_with_len a n ++ j ∷ []
one_more a zero j e = ap (λ (k : ℕ). k ∷ []) (omega arith)
one_more a (suc n) j e = ap (λ l. a ∷ l) (one_more (a + 1) n j (omega arith))

count_more : (n : ℕ) → range_with_len 0 (n + 1) ≡ range_with_len 0 n ++ n ∷ []
count_more n = let e : n + 1 ≡ suc n = omega arith in ap (range_with_len 0) e ∙ one_more 0 n n (omega arith)

-- one place at the end is kept by its feeder's test, and by no other
pub own_last : (ports : List ℕ) (f place : ℕ) (xs : List ℕ) → is_of ports f place ≡ true
    → filter (is_of ports f) (xs ++ place ∷ []) ≡ filter (is_of ports f) xs ++ place ∷ []
own_last ports f place xs own = filter-append (is_of ports f) xs (place ∷ [])
    ∙ ap (λ (b : Bool). filter (is_of ports f) xs ++ cond b (place ∷ []) []) own

pub other_last : (ports : List ℕ) (f place : ℕ) (xs : List ℕ) → is_of ports f place ≡ false
    → filter (is_of ports f) (xs ++ place ∷ []) ≡ filter (is_of ports f) xs
other_last ports f place xs other = filter-append (is_of ports f) xs (place ∷ [])
    ∙ ap (λ (b : Bool). filter (is_of ports f) xs ++ cond b (place ∷ []) []) other ∙ append-nil (filter (is_of ports f) xs)

pub own_below : (ports : List ℕ) (f place : ℕ) → is_of ports f place ≡ true
    → places_below ports f (place + 1) ≡ places_below ports f place ++ place ∷ []
own_below ports f place own = ap (filter (is_of ports f)) (count_more place)
    ∙ own_last ports f place (range_with_len 0 place) own

pub other_below : (ports : List ℕ) (f place : ℕ) → is_of ports f place ≡ false
    → places_below ports f (place + 1) ≡ places_below ports f place
other_below ports f place other = ap (filter (is_of ports f)) (count_more place)
    ∙ other_last ports f place (range_with_len 0 place) other

-- a feeder has no fewer places below a number than below one that is no greater
one_grows : (ports : List ℕ) (f place : ℕ) (b : Bool) → is_of ports f place ≡ b
    → length (places_below ports f place) ≤ length (places_below ports f (place + 1))
one_grows ports f place true own = rw (own_below ports f place own) (omega (arith, length-append (places_below ports f place) (place ∷ [])))
one_grows ports f place false other = rw (other_below ports f place other) (omega arith)

grows : (ports : List ℕ) (f n k : ℕ) → length (places_below ports f n) ≤ length (places_below ports f (k + n))
grows ports f n zero = let e : 0 + n ≡ n = omega arith in subst (λ (m : ℕ). length (places_below ports f n) ≤ length (places_below ports f m)) (sym e) (omega arith)
grows ports f n (suc k) =
    let e : suc k + n ≡ k + n + 1 = omega arith in
    let more = one_grows ports f (k + n) (is_of ports f (k + n)) refl in
    let fewer = grows ports f n k in
    subst (λ (m : ℕ). length (places_below ports f n) ≤ length (places_below ports f m)) (sym e) (omega (arith, more, fewer))

pub below_grows : (ports : List ℕ) (f n m : ℕ) → n ≤ m → length (places_below ports f n) ≤ length (places_below ports f m)
below_grows ports f n m le = let e : m - n + n ≡ m = omega arith in subst (λ (k : ℕ). length (places_below ports f n) ≤ length (places_below ports f k)) e (grows ports f n (m - n))

-- one place more of its own is still among those of the frame
pub own_fits : (ports : List ℕ) (f place : ℕ) → place < length ports → is_of ports f place ≡ true
    → length (places_below ports f place ++ place ∷ []) ≤ length (places_below ports f (length ports))
own_fits ports f place lt own = rw (sym (own_below ports f place own)) (below_grows ports f (place + 1) (length ports) (omega arith))

-- ---- each place is of one feeder

shared : (m : ℕ) → m < 2 → (x : ℕ) (a b : List ℕ)
    → length (cond (m == 0) (x ∷ a) a) + length (cond (m == 1) (x ∷ b) b) ≡ suc (length a + length b)
shared zero lt x a b = omega arith
shared (suc zero) lt x a b = omega arith
shared (suc (suc m)) lt x a b = absurd (omega arith)

pub each_of_one : (ports xs : List ℕ)
    → length (filter (is_of ports 0) xs) + length (filter (is_of ports 1) xs) ≡ length xs
each_of_one ports [] = refl
each_of_one ports (x ∷ xs) = shared (slice_index ports x % 2) (omega arith) x (filter (is_of ports 0) xs) (filter (is_of ports 1) xs)
    ∙ ap suc (each_of_one ports xs)

apart : (m : ℕ) → (m == 0) ≡ true → (m == 1) ≡ false
apart zero is = refl
apart (suc m) is = grind (arith, nat_tests)

pub even_not_odd : (ports : List ℕ) (place : ℕ) → is_of ports 0 place ≡ true → is_of ports 1 place ≡ false
even_not_odd ports place is = apart (slice_index ports place % 2) is

apart_again : (m : ℕ) → (m == 1) ≡ true → (m == 0) ≡ false
apart_again zero is = grind (arith, nat_tests)
apart_again (suc m) is = grind (arith, nat_tests)

pub odd_not_even : (ports : List ℕ) (place : ℕ) → is_of ports 1 place ≡ true → is_of ports 0 place ≡ false
odd_not_even ports place is = apart_again (slice_index ports place % 2) is

-- a frame has as many places as packets
pub as_many_places : (ports : List ℕ) → length (places_below ports 0 (length ports)) + length (places_below ports 1 (length ports)) ≡ length ports
as_many_places ports = each_of_one ports (range_with_len 0 (length ports)) ∙ length-range_with_len 0 (length ports)
