-- What an order of arrival has, and what it keeps.
use Rattle.std.proofs.Common.{◌≡◌, ℕ, zero, suc, ◌+◌, ◌%◌, ◌==◌, ◌<◌, ◌≤◌, Bool, true, false, cond, List, [], ◌∷◌, ◌++◌, length, sym, refl, ap, ◌∙◌, subst, append_assoc, length-append, true≢false, arith, slice_index, slice_get, Option, Some, None, take, get_or, nat_lt}
use Rattle.std.specs.List.{filter, cons_option, range_with_len}
use Rattle.std.proofs.lemmas.Option.{none-some, same_Some}
use Rattle.std.specs.List.Sorted.{IsStrictlyIncreasing}
use Rattle.std.proofs.lemmas.Bool.Decides.{nat_tests}
use Rattle.std.proofs.lemmas.List.{length-map}
use Rattle.std.proofs.lemmas.List.FromFn.{length-range_with_len, get_or-range_with_len}
use Rattle.std.proofs.lemmas.List.Kept.{IsStrictlyIncreasing-filter}
use Rattle.packet_read.specs.declared.arrival.Arrival.{Arrival}
use Rattle.packet_read.specs.Orders.{is_from, in_order}
use Rattle.feed_queue.specs.Orders.{ports_of, is_of, places_below, IsOrder}
use Rattle.feed_queue.specs.Laws.{OrdersHaveEachPlaceOnce, OrdersKeepEachPort}
use Rattle.feed_queue.proofs.Counting.{each_of_one, as_many_places}

-- ---- a test within another

within_head : (b c : Bool) (x : ℕ) (p : ℕ → Bool) (ys zs : List ℕ) → p x ≡ b → (b ≡ true → c ≡ true) → filter p ys ≡ zs
    → filter p (cond c (x ∷ ys) ys) ≡ cond b (x ∷ zs) zs
within_head true true x p ys zs is so e = ap (λ (b : Bool). cond b (x ∷ filter p ys) (filter p ys)) is ∙ ap (λ l. x ∷ l) e
within_head true false x p ys zs is so e = absurd (true≢false (sym (so refl)))
within_head false true x p ys zs is so e = ap (λ (b : Bool). cond b (x ∷ filter p ys) (filter p ys)) is ∙ e
within_head false false x p ys zs is so e = e

-- what passes a test is among what passes a wider one
filter_within : (p q : ℕ → Bool) → ((k : ℕ) → p k ≡ true → q k ≡ true) → (xs : List ℕ) → filter p (filter q xs) ≡ filter p xs
filter_within p q so [] = refl
filter_within p q so (x ∷ xs) = within_head (p x) (q x) x p (filter q xs) (filter p xs) refl (so x) (filter_within p q so xs)

-- a test of places that are all of one feeder finds the same in an order as among all places
of_feeder : (ports order : List ℕ) (p : ℕ → Bool) (f : ℕ) → ((k : ℕ) → p k ≡ true → is_of ports f k ≡ true)
    → filter (is_of ports f) order ≡ places_below ports f (length ports) → filter p order ≡ filter p (range_with_len 0 (length ports))
of_feeder ports order p f so same = sym (filter_within p (is_of ports f) so order) ∙ ap (filter p) same
    ∙ filter_within p (is_of ports f) so (range_with_len 0 (length ports))

by_parity : (ports order : List ℕ) (p : ℕ → Bool) (m : ℕ) → m < 2 → ((k : ℕ) → p k ≡ true → is_of ports m k ≡ true)
    → IsOrder ports order → filter p order ≡ filter p (range_with_len 0 (length ports))
by_parity ports order p zero lt so o = of_feeder ports order p 0 so o.evens
by_parity ports order p (suc zero) lt so o = of_feeder ports order p 1 so o.odds
by_parity ports order p (suc (suc m)) lt so o = absurd (omega arith)

-- ---- each place once

none_above : (a n k : ℕ) → k < a → filter (λ j. j == k) (range_with_len a n) ≡ []
none_above a zero k lt = refl
none_above a (suc n) k lt =
    let no : (a == k) ≡ false = grind (arith, nat_tests) in
    ap (λ (b : Bool). cond b (a ∷ filter (λ j. j == k) (range_with_len (a + 1) n)) (filter (λ j. j == k) (range_with_len (a + 1) n))) no
    ∙ none_above (a + 1) n k (omega arith)

none_below : (a n k : ℕ) → a + n ≤ k → filter (λ j. j == k) (range_with_len a n) ≡ []
none_below a zero k le = refl
none_below a (suc n) k le =
    let no : (a == k) ≡ false = grind (arith, nat_tests) in
    ap (λ (b : Bool). cond b (a ∷ filter (λ j. j == k) (range_with_len (a + 1) n)) (filter (λ j. j == k) (range_with_len (a + 1) n))) no
    ∙ none_below (a + 1) n k (omega arith)

one_head : (b : Bool) (a n k : ℕ) → (a == k) ≡ b → a ≤ k → k < a + suc n
    → (a + 1 ≤ k → k < a + 1 + n → filter (λ j. j == k) (range_with_len (a + 1) n) ≡ k ∷ [])
    → cond b (a ∷ filter (λ j. j == k) (range_with_len (a + 1) n)) (filter (λ j. j == k) (range_with_len (a + 1) n)) ≡ k ∷ []
one_head true a n k is le lt rest = let e : a ≡ k = grind (arith, nat_tests, is) in
    ap (λ l. a ∷ l) (none_above (a + 1) n k (omega arith)) ∙ ap (λ (j : ℕ). j ∷ []) e
one_head false a n k is le lt rest = let ne : a < k = grind (arith, nat_tests, is) in rest (omega arith) (omega arith)

one_within : (a n k : ℕ) → a ≤ k → k < a + n → filter (λ j. j == k) (range_with_len a n) ≡ k ∷ []
one_within a zero k le lt = absurd (omega arith)
one_within a (suc n) k le lt = one_head (a == k) a n k refl le lt (λ l g. one_within (a + 1) n k l g)

-- two numbers that are one have one parity
same_number : (ports : List ℕ) (k j : ℕ) → (j == k) ≡ true → is_of ports (slice_index ports k % 2) j ≡ true
same_number ports k j is = let e : j ≡ k = grind (arith, nat_tests, is) in
    subst (λ (i : ℕ). is_of ports (slice_index ports k % 2) i ≡ true) (sym e) (grind (arith, nat_tests))

same_place : (ports order : List ℕ) (k : ℕ) → IsOrder ports order
    → filter (λ j. j == k) order ≡ filter (λ j. j == k) (range_with_len 0 (length ports))
same_place ports order k o = by_parity ports order (λ j. j == k) (slice_index ports k % 2) (omega arith) (same_number ports k) o

rising : (n : ℕ) → IsStrictlyIncreasing (range_with_len 0 n)
rising n k lt =
    let long = length-range_with_len 0 n in
    omega (arith, get_or-range_with_len 0 n k 0 (omega (arith, long)), get_or-range_with_len 0 n (k + 1) 0 (omega (arith, long)))

pub each_place_once : OrdersHaveEachPlaceOnce
each_place_once ports order o = record {
  count = omega (arith, each_of_one ports order, ap length o.evens, ap length o.odds, as_many_places ports);
  places = record {
    once = λ place lt. same_place ports order place o ∙ one_within 0 (length ports) place (omega arith) (omega arith);
    no_other = λ k le. same_place ports order k o ∙ none_below 0 (length ports) k (omega arith);
  };
  evens = subst IsStrictlyIncreasing (sym o.evens) (IsStrictlyIncreasing-filter (is_of ports 0) (range_with_len 0 (length ports)) (rising (length ports)));
  odds = subst IsStrictlyIncreasing (sym o.odds) (IsStrictlyIncreasing-filter (is_of ports 1) (range_with_len 0 (length ports)) (rising (length ports)));
}

-- ---- each port's packets

-- the packet at this place comes from this port
abbrev at_port : List Arrival → ℕ → ℕ → Bool
at_port arrivals port place = slice_index (ports_of arrivals) place == port

-- the port at a place is that of the packet there
port_at : (arrivals : List Arrival) (place : ℕ) (a : Arrival) → slice_get arrivals place ≡ Some a → slice_index (ports_of arrivals) place ≡ a.port
port_at [] place a is = absurd (none-some a is)
port_at (x ∷ xs) zero a is = ap (λ (y : Arrival). y.port) (same_Some x a is)
port_at (x ∷ xs) (suc place) a is = port_at xs place a is

from_head : (arrivals : List Arrival) (port place : ℕ) (found : Option Arrival) (rest : List Arrival) (places : List ℕ)
    → slice_get arrivals place ≡ found → filter (is_from port) rest ≡ in_order places arrivals
    → filter (is_from port) (cons_option found rest) ≡ in_order (cond (at_port arrivals port place) (place ∷ places) places) arrivals
from_head arrivals port place None rest places is e = go (at_port arrivals port place)
  where
    go : (b : Bool) → filter (is_from port) rest ≡ in_order (cond b (place ∷ places) places) arrivals
    go true = e ∙ ap (λ (o : Option Arrival). cons_option o (in_order places arrivals)) (sym is)
    go false = e
from_head arrivals port place (Some a) rest places is e =
    let at : at_port arrivals port place ≡ is_from port a = ap (λ (n : ℕ). n == port) (port_at arrivals place a is) in
    rw at (go (is_from port a))
  where
    go : (b : Bool) → cond b (a ∷ filter (is_from port) rest) (filter (is_from port) rest) ≡ in_order (cond b (place ∷ places) places) arrivals
    go true = ap (λ l. a ∷ l) e ∙ ap (λ (o : Option Arrival). cons_option o (in_order places arrivals)) (sym is)
    go false = e

-- the packets of a port in an order are those at its places
from_port : (arrivals : List Arrival) (port : ℕ) (order : List ℕ)
    → filter (is_from port) (in_order order arrivals) ≡ in_order (filter (at_port arrivals port) order) arrivals
from_port arrivals port [] = refl
from_port arrivals port (x ∷ xs) = from_head arrivals port x (slice_get arrivals x) (in_order xs arrivals) (filter (at_port arrivals port) xs) refl (from_port arrivals port xs)

get_after : (xs ys : List Arrival) (y : Arrival) → slice_get (xs ++ y ∷ ys) (length xs) ≡ Some y
get_after [] ys y = refl
get_after (x ∷ xs) ys y = get_after xs ys y

all_after : (xs ys : List Arrival) → in_order (range_with_len (length xs) (length ys)) (xs ++ ys) ≡ ys
all_after xs [] = refl
all_after xs (y ∷ ys) =
    let rest : in_order (range_with_len (length xs + 1) (length ys)) (xs ++ y ∷ ys) ≡ ys =
    subst (λ (l : List Arrival). in_order (range_with_len (length xs + 1) (length ys)) l ≡ ys) (append_assoc xs (y ∷ []) ys)
    (subst (λ (n : ℕ). in_order (range_with_len n (length ys)) ((xs ++ y ∷ []) ++ ys) ≡ ys) (length-append xs (y ∷ [])) (all_after (xs ++ y ∷ []) ys)) in
    ap (λ (o : Option Arrival). cons_option o (in_order (range_with_len (length xs + 1) (length ys)) (xs ++ y ∷ ys))) (get_after xs ys y) ∙ ap (λ l. y ∷ l) rest

-- in their own order packets are as they are
own_order : (arrivals : List Arrival) → in_order (range_with_len 0 (length (ports_of arrivals))) arrivals ≡ arrivals
own_order arrivals = ap (λ (n : ℕ). in_order (range_with_len 0 n) arrivals) (length-map arrivals (λ (a : Arrival). a.port)) ∙ all_after [] arrivals

same_port : (ports : List ℕ) (port place : ℕ) → (slice_index ports place == port) ≡ true → is_of ports (port % 2) place ≡ true
same_port ports port place is = let e : slice_index ports place ≡ port = grind (arith, nat_tests, is) in
    subst (λ (n : ℕ). (n % 2 == port % 2) ≡ true) (sym e) (grind (arith, nat_tests))

pub each_port_kept : OrdersKeepEachPort
each_port_kept arrivals order port o =
    from_port arrivals port order
    ∙ ap (λ (l : List ℕ). in_order l arrivals) (by_parity (ports_of arrivals) order (at_port arrivals port) (port % 2) (omega arith) (same_port (ports_of arrivals) port) o)
    ∙ sym (from_port arrivals port (range_with_len 0 (length (ports_of arrivals))))
    ∙ ap (filter (is_from port)) (own_order arrivals)

-- ---- what a caller needs of an order to go through it

-- a number of a list is found in it
found_there : (k : ℕ) (xs : List ℕ) (i : ℕ) → i < length xs → slice_index xs i ≡ k → filter (λ j. j == k) xs ≡ [] → ⊥
found_there k [] i lt is none = omega arith
found_there k (x ∷ xs) zero lt is none = let yes : (x == k) ≡ true = grind (arith, nat_tests, is) in
    let more : x ∷ filter (λ j. j == k) xs ≡ [] = sym (ap (λ (b : Bool). cond b (x ∷ filter (λ j. j == k) xs) (filter (λ j. j == k) xs)) yes) ∙ none in cc
found_there k (x ∷ xs) (suc i) lt is none = found_there k xs i (omega arith) is (rest (x == k) none)
  where
    rest : (b : Bool) → cond b (x ∷ filter (λ j. j == k) xs) (filter (λ j. j == k) xs) ≡ [] → filter (λ j. j == k) xs ≡ []
    rest true h = cc
    rest false h = h

not_within : (ports order : List ℕ) (i : ℕ) → IsOrder ports order → i < length order → length ports ≤ slice_index order i → ⊥
not_within ports order i o lt le = found_there (slice_index order i) order i lt refl ((each_place_once ports order o).places.no_other (slice_index order i) le)

-- each place of an order is that of a packet
pub places_are_within : (ports order : List ℕ) (i : ℕ) → IsOrder ports order → i < length order → slice_index order i < length ports
places_are_within ports order i o lt = by (nat_lt (slice_index order i) (length ports)) refl
  where
    by : (b : Bool) → nat_lt (slice_index order i) (length ports) ≡ b → slice_index order i < length ports
    by true is = grind (arith, nat_tests, is)
    by false is = let le : length ports ≤ slice_index order i = grind (arith, nat_tests, is) in absurd (not_within ports order i o lt le)

-- there are no more packets in an order than there are packets
short_order : (order : List ℕ) (arrivals : List Arrival) → length (in_order order arrivals) ≤ length order
short_order [] arrivals = omega arith
short_order (x ∷ xs) arrivals = by (slice_get arrivals x) (short_order xs arrivals)
  where
    by : (o : Option Arrival) → length (in_order xs arrivals) ≤ length xs → length (cons_option o (in_order xs arrivals)) ≤ suc (length xs)
    by None rest = omega (arith, rest)
    by (Some a) rest = omega (arith, rest)

pub no_more_packets : (arrivals : List Arrival) (order : List ℕ) → IsOrder (ports_of arrivals) order → length (in_order order arrivals) ≤ length arrivals
no_more_packets arrivals order o =
    omega (arith, short_order order arrivals, (each_place_once (ports_of arrivals) order o).count, length-map arrivals (λ (a : Arrival). a.port))

-- one place more in an order is one packet more
in_order-append : (xs ys : List ℕ) (arrivals : List Arrival) → in_order (xs ++ ys) arrivals ≡ in_order xs arrivals ++ in_order ys arrivals
in_order-append [] ys arrivals = refl
in_order-append (x ∷ xs) ys arrivals = by (slice_get arrivals x) (in_order-append xs ys arrivals)
  where
    by : (o : Option Arrival) → in_order (xs ++ ys) arrivals ≡ in_order xs arrivals ++ in_order ys arrivals
        → cons_option o (in_order (xs ++ ys) arrivals) ≡ cons_option o (in_order xs arrivals) ++ in_order ys arrivals
    by None rest = rest
    by (Some a) rest = ap (λ l. a ∷ l) rest

get_there : (arrivals : List Arrival) (k : ℕ) (d : Arrival) → k < length arrivals → slice_get arrivals k ≡ Some (get_or arrivals k d)
get_there [] k d lt = absurd (omega arith)
get_there (x ∷ xs) zero d lt = refl
get_there (x ∷ xs) (suc k) d lt = get_there xs k d (omega arith)

take_one_more : (xs : List ℕ) (i : ℕ) → i < length xs → take (i + 1) xs ≡ take i xs ++ slice_index xs i ∷ []
take_one_more [] i lt = absurd (omega arith)
take_one_more (x ∷ xs) zero lt = refl
take_one_more (x ∷ xs) (suc i) lt = let e : suc i + 1 ≡ suc (i + 1) = omega arith in ap (λ n. take n (x ∷ xs)) e ∙ ap (λ l. x ∷ l) (take_one_more xs i (omega arith))

pub in_order-more : (order : List ℕ) (arrivals : List Arrival) (i : ℕ) (d : Arrival) → i < length order → slice_index order i < length arrivals
    → in_order (take (i + 1) order) arrivals ≡ in_order (take i order) arrivals ++ get_or arrivals (slice_index order i) d ∷ []
in_order-more order arrivals i d lt within =
    ap (λ (l : List ℕ). in_order l arrivals) (take_one_more order i lt)
    ∙ in_order-append (take i order) (slice_index order i ∷ []) arrivals
    ∙ ap (λ (o : Option Arrival). in_order (take i order) arrivals ++ cons_option o []) (get_there arrivals (slice_index order i) d within)
