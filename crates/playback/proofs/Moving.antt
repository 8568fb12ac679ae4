-- Packets that are moved away one after another, in an order.
use Rattle.std.proofs.Common.{◌≡◌, ℕ, zero, suc, ◌+◌, ◌<◌, ◌≤◌, ◌==◌, Bool, true, false, cond, List, [], ◌∷◌, ◌++◌, length, take, drop, set, get_or, slice_index, slice_get, Option, Some, None, refl, sym, ap, ◌∙◌, subst, append_assoc, append-nil, length-append, take-append-drop, arith, nat_lt}
use Rattle.std.specs.List.{filter, cons_option}
use Rattle.std.proofs.lemmas.Bool.Decides.{nat_tests}
use Rattle.std.proofs.lemmas.List.Elements.{filter-append}
use Rattle.std.proofs.lemmas.Option.{slice_get-get_or}
use Rattle.packet_read.specs.declared.arrival.Arrival.{Arrival}
use Rattle.packet_read.specs.Orders.{in_order, AreEachOnce}

-- the number at a place, and the rest
drop_there : (order : List ℕ) (i : ℕ) → i < length order → drop i order ≡ slice_index order i ∷ drop (i + 1) order
drop_there [] i lt = absurd (omega arith)
drop_there (x ∷ xs) zero lt = refl
drop_there (x ∷ xs) (suc i) lt =
    let e : suc i + 1 ≡ suc (i + 1) = omega arith in
    drop_there xs i (omega arith) ∙ ap (λ n. slice_index xs i ∷ drop n (x ∷ xs)) (sym e)

is_same : (p : ℕ) → p == p ≡ true
is_same p = grind (arith, nat_tests)

-- a number that is there is kept by its own test
not_none : (order : List ℕ) (i : ℕ) → i < length order → filter (λ j. j == slice_index order i) order ≡ [] → ⊥
not_none order i lt none =
    let p = slice_index order i in
    let q : ℕ → Bool = λ j. j == p in
    let split : order ≡ take i order ++ p ∷ drop (i + 1) order = sym (take-append-drop i order) ∙ ap (λ xs. take i order ++ xs) (drop_there order i lt) in
    let kept : filter q order ≡ filter q (take i order) ++ filter q (p ∷ drop (i + 1) order) = ap (filter q) split ∙ filter-append q (take i order) (p ∷ drop (i + 1) order) in
    let here : filter q (p ∷ drop (i + 1) order) ≡ p ∷ filter q (drop (i + 1) order) = ap (λ (b : Bool). cond b (p ∷ filter q (drop (i + 1) order)) (filter q (drop (i + 1) order))) (is_same p) in
    absurd (omega (arith, ap length none, ap length kept, ap length here, length-append (filter q (take i order)) (filter q (p ∷ drop (i + 1) order))))

-- each place is that of a packet
pub within : (order : List ℕ) (n i : ℕ) → AreEachOnce n order → i < length order → slice_index order i < n
within order n i each lt = by (nat_lt (slice_index order i) n) refl
  where
    by : (b : Bool) → nat_lt (slice_index order i) n ≡ b → slice_index order i < n
    by true is = grind (arith, nat_tests, is)
    by false is = let le : n ≤ slice_index order i = grind (arith, nat_tests, is) in absurd (not_none order i lt (each.no_other (slice_index order i) le))

-- and doesn't come again
not_again : (order : List ℕ) (n i : ℕ) → AreEachOnce n order → i < length order → filter (λ j. j == slice_index order i) (drop (i + 1) order) ≡ []
not_again order n i each lt =
    let p = slice_index order i in
    let q : ℕ → Bool = λ j. j == p in
    let split : order ≡ take i order ++ p ∷ drop (i + 1) order = sym (take-append-drop i order) ∙ ap (λ xs. take i order ++ xs) (drop_there order i lt) in
    let kept : filter q order ≡ filter q (take i order) ++ filter q (p ∷ drop (i + 1) order) = ap (filter q) split ∙ filter-append q (take i order) (p ∷ drop (i + 1) order) in
    let here : filter q (p ∷ drop (i + 1) order) ≡ p ∷ filter q (drop (i + 1) order) = ap (λ (b : Bool). cond b (p ∷ filter q (drop (i + 1) order)) (filter q (drop (i + 1) order))) (is_same p) in
    let one = each.once p (within order n i each lt) in
    no_length (filter q (drop (i + 1) order))
    (omega (arith, ap length one, ap length kept, ap length here, length-append (filter q (take i order)) (filter q (p ∷ drop (i + 1) order))))
  where
    no_length : (xs : List ℕ) → length xs ≡ 0 → xs ≡ []
    no_length [] is = refl
    no_length (x ∷ xs) is = cc

-- the packet at another place is the same when one was taken away
other_place : (arrivals : List Arrival) (p k : ℕ) (a : Arrival) → k == p ≡ false → slice_get (set arrivals p a) k ≡ slice_get arrivals k
other_place [] p k a other = refl
other_place (x ∷ xs) zero zero a other = let same : zero == zero ≡ true = is_same zero in cc
other_place (x ∷ xs) zero (suc k) a other = refl
other_place (x ∷ xs) (suc p) zero a other = refl
other_place (x ∷ xs) (suc p) (suc k) a other = let differ : k == p ≡ false = grind (arith, nat_tests, other) in other_place xs p k a differ

-- so are those at places among which it isn't
untouched : (order : List ℕ) (arrivals : List Arrival) (p : ℕ) (a : Arrival) → filter (λ j. j == p) order ≡ [] → in_order order (set arrivals p a) ≡ in_order order arrivals
untouched [] arrivals p a none = refl
untouched (k ∷ ks) arrivals p a none = by (k == p) refl (untouched ks arrivals p a)
  where
    by : (b : Bool) → k == p ≡ b → (filter (λ j. j == p) ks ≡ [] → in_order ks (set arrivals p a) ≡ in_order ks arrivals) → in_order (k ∷ ks) (set arrivals p a) ≡ in_order (k ∷ ks) arrivals
    by true is rest = let one : filter (λ j. j == p) (k ∷ ks) ≡ k ∷ filter (λ j. j == p) ks = ap (λ (b : Bool). cond b (k ∷ filter (λ j. j == p) ks) (filter (λ j. j == p) ks)) is in cc
    by false is rest =
        let left : filter (λ j. j == p) ks ≡ [] = sym (ap (λ (b : Bool). cond b (k ∷ filter (λ j. j == p) ks) (filter (λ j. j == p) ks)) is) ∙ none in
        let there = rest left in
        λ i. cons_option (other_place arrivals p k a is i) (there i)

-- the packets moved so far, and then those that are left, are all in order
pub one_moved : (order : List ℕ) (n i : ℕ) (arrivals moved : List Arrival) (a d : Arrival) (all : List Arrival) → AreEachOnce n order → i < length order → slice_index order i < length arrivals
    → moved ++ in_order (drop i order) arrivals ≡ all → (moved ++ get_or arrivals (slice_index order i) d ∷ []) ++ in_order (drop (i + 1) order) (set arrivals (slice_index order i) a) ≡ all
one_moved order n i arrivals moved a d all each lt inside so_far =
    let p = slice_index order i in
    let here = get_or arrivals p d in
    let rest = in_order (drop (i + 1) order) arrivals in
    let left : in_order (drop i order) arrivals ≡ here ∷ rest =
    ap (λ xs. in_order xs arrivals) (drop_there order i lt) ∙ ap (λ (o : Option Arrival). cons_option o rest) (slice_get-get_or arrivals p d inside) in
    append_assoc moved (here ∷ []) (in_order (drop (i + 1) order) (set arrivals p a))
    ∙ ap (λ xs. moved ++ here ∷ xs) (untouched (drop (i + 1) order) arrivals p a (not_again order n i each lt))
    ∙ ap (λ xs. moved ++ xs) (sym left) ∙ so_far

-- at the end none is left
pub all_moved : (order : List ℕ) (i : ℕ) (arrivals moved all : List Arrival) → length order ≤ i → moved ++ in_order (drop i order) arrivals ≡ all → moved ≡ all
all_moved order i arrivals moved all le so_far =
    sym (append-nil moved) ∙ ap (λ xs. moved ++ in_order xs arrivals) (sym (nothing_left order i le)) ∙ so_far
  where
    nothing_left : (xs : List ℕ) (k : ℕ) → length xs ≤ k → drop k xs ≡ []
    nothing_left [] zero le = refl
    nothing_left [] (suc k) le = refl
    nothing_left (x ∷ xs) zero le = absurd (omega arith)
    nothing_left (x ∷ xs) (suc k) le = nothing_left xs k (omega arith)
