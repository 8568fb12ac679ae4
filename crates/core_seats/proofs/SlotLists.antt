-- The players of a word of slots, one after another, and those of the start.
use Rattle.std.proofs.Common.{◌≡◌, ◌≢◌, ℕ, zero, suc, ◌+◌, ◌*◌, ◌^◌, ◌%◌, ◌<◌, ◌≤◌, ◌==◌, min, Bool, true, false, ◌&&◌, not, List, [], ◌∷◌, ◌++◌, refl, ap, sym, ◌∙◌, subst, get_or, length, length-append, append_assoc, inl, inr, arith, bit_and, w64}
use Rattle.std.specs.Prelude.{filter, nat_lt, Option, Some, None, if◌then◌else◌}
use Rattle.std.specs.Int.{bit_at, bit_not, trailing_zeros}
use Rattle.std.specs.List.{filter_map, cons_option, range_with_len}
use Rattle.std.specs.List.Sorted.{IsStrictlyIncreasing}
use Rattle.std.proofs.lemmas.Bool.{cases_Bool, true≢false, eqb-true, eq-eqb, ne_eqb, lt-ltb, ltb-true, ltb-false, false≢true, cond-false}
use Rattle.std.proofs.lemmas.Nat.Bits.{bit_at-lt, bit_at_and, bit_at-trailing_zeros, bit_at_clear_same, bit_at_clear_other}
use Rattle.std.proofs.lemmas.Nat.{and_le_l}
use Rattle.std.proofs.Math.Bool.{and-false, and-true}
use Rattle.arena_geo.specs.Bounds.{Bounds}
use Rattle.arena_geo.specs.Regions.{touches_region}
use Rattle.entity_recs.specs.declared.rec.Rec.{Rec}
use Rattle.entity_recs.specs.Bodies.{abs_of}
use Rattle.areanode.specs.Words.{has_bit}
use Rattle.core_steps.specs.Nodes.{Fixed, has}
use Rattle.core_steps.specs.Reads.{player_of}
use Rattle.core_seats.specs.NearRecords.{touching_one}
use Rattle.core_seats.specs.NearKept.{near_player, records_touching, kept_at, other_players, players_kept}
use Rattle.core_seats.proofs.KeptNear.{IsBelowAll, AreRising, are_rising}

-- ---- the lowest bit

pub bit_first : (n : ℕ) → 0 < n → n < 2 ^ 64 → (has_bit n (trailing_zeros w64 n) ≡ true) × ((i : ℕ) → i < trailing_zeros w64 n → has_bit n i ≡ false)
bit_first n some small =
    let first = bit_at-trailing_zeros w64 n some small in (
      eq-eqb (bit_at n (trailing_zeros w64 n)) 1 first.1,
      λ i low. ap (λ (b : ℕ). b == 1) (first.2 i low),
    )

differ : (a b : ℕ) → (a == b) ≡ false → a ≢ b
differ a b other e = let same = eq-eqb a b e in cc

pub bit_cleared : (n k i : ℕ) → k < 64 → i < 64 → has_bit (bit_and n (bit_not w64 (1 * 2 ^ k % 2 ^ 64))) i ≡ (has_bit n i && not (i == k))
bit_cleared n k i below within = elim (cases_Bool (i == k)) [
  | inl same ↦
      let e : i ≡ k = eqb-true i k same in
      ap (λ (j : ℕ). has_bit (bit_and n (bit_not w64 (1 * 2 ^ k % 2 ^ 64))) j) e ∙ ap (λ (b : ℕ). b == 1) (bit_at_clear_same w64 n k below)
      ∙ sym (ap (λ (b : Bool). has_bit n i && not b) same ∙ and-false (has_bit n i))
  | inr other ↦
      ap (λ (b : ℕ). b == 1) (bit_at_clear_other w64 n k below i within (differ i k other))
      ∙ sym (ap (λ (b : Bool). has_bit n i && not b) other ∙ and-true (has_bit n i))
]

module _ (f g : ℕ → Bool) (k : ℕ) (rest_is : (i : ℕ) → i < 64 → g i ≡ (f i && not (i == k))) where
  -- above the bit the two words agree
  above : (s n : ℕ) → k < s → s + n ≤ 64 → filter f (range_with_len s n) ≡ filter g (range_with_len s n)
  above s zero high fits = refl
  above s (suc n) high fits =
      let same : g s ≡ f s = rest_is s (omega arith) ∙ ap (λ (b : Bool). f s && not b) (ne_eqb s k (λ e. omega (arith, e))) ∙ and-true (f s) in
      rw same (ap (λ (ns : List ℕ). if f s then s ∷ ns else ns) (above (s + 1) n (omega arith) (omega arith)))

  from_lowest : (s n : ℕ) → s ≤ k → k < s + n → s + n ≤ 64 → f k ≡ true → ((i : ℕ) → i < k → f i ≡ false)
      → filter f (range_with_len s n) ≡ k ∷ filter g (range_with_len s n)
  from_lowest s zero least most fits there first = absurd (omega arith)
  from_lowest s (suc n) least most fits there first = elim (cases_Bool (s == k)) [
    | inl same ↦
        let e : s ≡ k = eqb-true s k same in
        let is : f s ≡ true = ap f e ∙ there in
        let not : g s ≡ false = rest_is s (omega arith) ∙ ap (λ (b : Bool). f s && not b) same ∙ and-false (f s) in
        rw (is, not) (ap (λ (m : ℕ). m ∷ filter f (range_with_len (s + 1) n)) e ∙ ap (λ (ns : List ℕ). k ∷ ns) (above (s + 1) n (omega (arith, e)) (omega arith)))
    | inr other ↦
        let apart = differ s k other in
        let is : f s ≡ false = first s (omega (arith, apart)) in
        let not : g s ≡ false = rest_is s (omega arith) ∙ ap (λ (b : Bool). b && not (s == k)) is in
        rw (is, not) (from_lowest (s + 1) n (omega (arith, apart)) (omega arith) (omega arith) there first)
  ]

-- the slots of a word, rising
abbrev pub slots_in : ℕ → List ℕ
slots_in word = filter (has_bit word) (range_with_len 0 64)

pub slots_first : (word rest k : ℕ) → k < 64 → has_bit word k ≡ true → ((i : ℕ) → i < k → has_bit word i ≡ false)
    → ((i : ℕ) → i < 64 → has_bit rest i ≡ (has_bit word i && not (i == k)))
    → slots_in word ≡ k ∷ slots_in rest
slots_first word rest k below there first rest_is = from_lowest (has_bit word) (has_bit rest) k rest_is 0 64 (omega arith) (omega (arith, below)) (omega arith) there first

-- ---- the ids of a rising list that are below a number

has_not : (n : ℕ) (xs : List ℕ) → IsBelowAll n xs → has xs n ≡ false
has_not n [] above = refl
has_not n (x ∷ xs) above = let other : (x == n) ≡ false = ne_eqb x n (λ e. omega (arith, e, above.0)) in rw other (has_not n xs above.1)

none_has : (s n : ℕ) → filter (has []) (range_with_len s n) ≡ []
none_has s zero = refl
none_has s (suc n) = none_has (s + 1) n

below_mine : (n m : ℕ) (xs : List ℕ) → n ≤ m → IsBelowAll m xs → IsBelowAll n xs
below_mine n m [] less above = tt
below_mine n m (x ∷ xs) less above = (omega (arith, above.0), below_mine n m xs less above.1)

has_rest : (x : ℕ) (xs : List ℕ) (s n : ℕ) → x < s → filter (has (x ∷ xs)) (range_with_len s n) ≡ filter (has xs) (range_with_len s n)
has_rest x xs s zero less = refl
has_rest x xs s (suc n) less =
    let other : (x == s) ≡ false = ne_eqb x s (λ e. omega (arith, e)) in
    rw other (ap (λ (ns : List ℕ). if has xs s then s ∷ ns else ns) (has_rest x xs (s + 1) n (omega arith)))

-- each of the numbers is at least this one
abbrev AreFrom : ℕ → List ℕ → Type 0
AreFrom s [] = Unit {0}
AreFrom s (x ∷ xs) = (s ≤ x) × AreFrom s xs

from_above : (s n : ℕ) (xs : List ℕ) → s ≤ n + 1 → IsBelowAll n xs → AreFrom s xs
from_above s n [] less above = tt
from_above s n (x ∷ xs) less above = (omega (arith, above.0), from_above s n xs less above.1)

none_from : (s : ℕ) (xs : List ℕ) → AreFrom s xs → filter (λ (id : ℕ). nat_lt id s) xs ≡ []
none_from s [] from = refl
none_from s (x ∷ xs) from = let least = from.0 in let not : nat_lt x s ≡ false = grind arith in rw not (none_from s xs from.1)

rising_below : (n k s : ℕ) (ids : List ℕ) → s + k ≡ n → AreRising ids → AreFrom s ids
    → filter (λ (id : ℕ). nat_lt id n) ids ≡ filter (has ids) (range_with_len s k)
rising_below n zero s ids end rising from =
    let same : s ≡ n = omega (arith, end) in
    subst (λ (m : ℕ). filter (λ (id : ℕ). nat_lt id m) ids ≡ []) same (none_from s ids from)
rising_below n (suc k) s [] end rising from = sym (none_has s (suc k))
rising_below n (suc k) s (x ∷ xs) end rising from = elim (cases_Bool (x == s)) [
  | inl same ↦
      let e : x ≡ s = eqb-true x s same in
      let low : nat_lt x n ≡ true = lt-ltb x n (omega (arith, e, end)) in
      rw (low, same) (ap (λ (m : ℕ). m ∷ filter (λ (id : ℕ). nat_lt id n) xs) e
      ∙ ap (λ (ns : List ℕ). s ∷ ns) (rising_below n k (s + 1) xs (omega (arith, end)) rising.1 (from_above (s + 1) x xs (omega (arith, e)) rising.0)
      ∙ sym (has_rest x xs (s + 1) k (omega (arith, e)))))
  | inr other ↦
      let apart = differ x s other in
      let more : s < x = omega (arith, apart, from.0) in
      let none : has (x ∷ xs) s ≡ false = has_not s (x ∷ xs) (more, below_mine s x xs (omega (arith, more)) rising.0) in
      rising_below n k (s + 1) (x ∷ xs) (omega (arith, end)) rising (omega (arith, more), from_above (s + 1) x xs (omega (arith, more)) rising.0)
      ∙ sym (cond-false (has (x ∷ xs) s) (s ∷ filter (has (x ∷ xs)) (range_with_len (s + 1) k)) (filter (has (x ∷ xs)) (range_with_len (s + 1) k)) none)
]

from_zero : (ids : List ℕ) → AreFrom 0 ids
from_zero [] = tt
from_zero (x ∷ xs) = (omega arith, from_zero xs)

-- ---- what a function gives of the slots of a word

tested : (f : ℕ → Option Rec) (p : ℕ → Bool) (ns : List ℕ) → filter_map f (filter p ns) ≡ filter_map (λ n. if p n then f n else None) ns
tested f p [] = refl
tested f p (n ∷ ns) = by_test (p n) (tested f p ns)
  where
    by_test : (b : Bool) → filter_map f (filter p ns) ≡ filter_map (λ n. if p n then f n else None) ns
        → filter_map f (if b then n ∷ filter p ns else filter p ns) ≡ cons_option (if b then f n else None) (filter_map (λ n. if p n then f n else None) ns)
    by_test true rest = ap (cons_option (f n)) rest
    by_test false rest = rest

same_given : (f g : ℕ → Option Rec) (s k : ℕ) → ((n : ℕ) → n < s + k → f n ≡ g n) → filter_map f (range_with_len s k) ≡ filter_map g (range_with_len s k)
same_given f g s zero same = refl
same_given f g s (suc k) same =
    ap (λ (o : Option Rec). cons_option o (filter_map f (range_with_len (s + 1) k))) (same s (omega arith))
    ∙ ap (cons_option (g s)) (same_given f g (s + 1) k (λ n less. same n (omega (arith, less))))

near_option : (region : List Bounds) (o : Option Rec) (rs near : List Rec) → records_touching region rs ≡ near
    → records_touching region (cons_option o rs) ≡ cons_option (touching_one region o) near
near_option region None rs near is = is
near_option region (Some r) rs near is = by_test (touches_region (abs_of r) region)
  where
    by_test : (b : Bool) → (if b then r ∷ records_touching region rs else records_touching region rs) ≡ cons_option (if b then Some r else None) near
    by_test true = ap (λ (qs : List Rec). r ∷ qs) is
    by_test false = is

near_one_kept : (region : List Bounds) (f : ℕ → Option Rec) (ns : List ℕ)
    → records_touching region (filter_map f ns) ≡ filter_map (λ n. touching_one region (f n)) ns
near_one_kept region f [] = refl
near_one_kept region f (n ∷ ns) = near_option region (f n) (filter_map f ns) (filter_map (λ m. touching_one region (f m)) ns) (near_one_kept region f ns)

all_same : (f g : ℕ → Option Rec) → ((n : ℕ) → f n ≡ g n) → (ns : List ℕ) → filter_map f ns ≡ filter_map g ns
all_same f g same [] = refl
all_same f g same (n ∷ ns) = ap (λ (o : Option Rec). cons_option o (filter_map f ns)) (same n) ∙ ap (cons_option (g n)) (all_same f g same ns)

by_two : (o : Option Rec) (a b : Bool) → (if a then (if b then o else None) else None) ≡ (if a && b then o else None)
by_two o true b = refl
by_two o false b = refl

-- the players kept are those of a word of slots: those that were seen of the live players but this one
pub kept_in_word : (F : Fixed) (region : List Bounds) (slot seen word : ℕ) (six : List (List ℕ)) → IsStrictlyIncreasing F.start.ids
    → ((s : ℕ) → s < 64 → has_bit word s ≡ (has_bit seen s && (has F.start.ids s && not (s == slot))))
    → filter_map (near_player region six) (slots_in word) ≡ players_kept F region slot seen six
kept_in_word F region slot seen word six rising word_is =
    let near = near_player region six in
    let f : ℕ → Option Rec = λ s. touching_one region (player_of s (kept_at seen six s)) in
    let other : ℕ → Option Rec = λ s. if not (s == slot) then f s else None in
    let ids = F.start.ids in
    let one : filter_map near (slots_in word) ≡ filter_map other (filter (has ids) (range_with_len 0 64)) =
    tested near (has_bit word) (range_with_len 0 64)
    ∙ same_given (λ s. if has_bit word s then near s else None) (λ s. if has ids s then other s else None) 0 64
    (λ s less. ap (λ (b : Bool). if b then near s else None) (word_is s (omega (arith, less)))
    ∙ by_tests s (has_bit seen s) (has ids s) (not (s == slot)))
    ∙ sym (tested other (has ids) (range_with_len 0 64)) in
    let two : filter_map other (filter (has ids) (range_with_len 0 64)) ≡ filter_map other (filter (λ id. nat_lt id 64) ids) =
    ap (filter_map other) (sym (rising_below 64 64 0 ids (omega arith) (are_rising ids rising) (from_zero ids))) in
    let three : filter_map other (filter (λ id. nat_lt id 64) ids) ≡ filter_map f (other_players F slot) =
    tested other (λ id. nat_lt id 64) ids ∙ both_tested ids ∙ sym (tested f (λ id. nat_lt id 64 && not (id == slot)) ids) in
    one ∙ two ∙ three ∙ sym (near_one_kept region (λ id. player_of id (kept_at seen six id)) (other_players F slot))
  where
    by_tests : (s : ℕ) (a b c : Bool) → (if a && (b && c) then near_player region six s else None)
        ≡ (if b then (if c then touching_one region (player_of s (if a then Some (get_or six s []) else None)) else None) else None)
    by_tests s true true true = refl
    by_tests s true true false = refl
    by_tests s true false c = refl
    by_tests s false true true = refl
    by_tests s false true false = refl
    by_tests s false false c = refl

    both_tested : (ns : List ℕ) → filter_map (λ id. if nat_lt id 64 then (if not (id == slot) then touching_one region (player_of id (kept_at seen six id)) else None) else None) ns
        ≡ filter_map (λ id. if nat_lt id 64 && not (id == slot) then touching_one region (player_of id (kept_at seen six id)) else None) ns
    both_tested ns = all_same _ _ (λ id. by_two (touching_one region (player_of id (kept_at seen six id))) (nat_lt id 64) (not (id == slot))) ns

-- ---- one slot less

-- a word without one of its bits is smaller
pub without_less : (word k : ℕ) → k < 64 → has_bit word k ≡ true → bit_and word (bit_not w64 (1 * 2 ^ k % 2 ^ 64)) < word
without_less word k below there =
    let least = and_le_l word (bit_not w64 (1 * 2 ^ k % 2 ^ 64)) in
    let gone : has_bit (bit_and word (bit_not w64 (1 * 2 ^ k % 2 ^ 64))) k ≡ false = ap (λ (b : ℕ). b == 1) (bit_at_clear_same w64 word k below) in
    let differs : bit_and word (bit_not w64 (1 * 2 ^ k % 2 ^ 64)) ≢ word = λ e. true≢false (sym there ∙ sym (ap (λ (w : ℕ). has_bit w k) e) ∙ gone) in
    omega (arith, least, differs)

pub both_bits : (a b i : ℕ) → has_bit (bit_and a b) i ≡ (has_bit a i && has_bit b i)
both_bits a b i = ap (λ (n : ℕ). n == 1) (bit_at_and a b i) ∙ by_bits (bit_at a i) (bit_at b i) (bit_at-lt a i) (bit_at-lt b i)
  where
    by_bits : (x y : ℕ) → x < 2 → y < 2 → (min x y == 1) ≡ ((x == 1) && (y == 1))
    by_bits zero zero less small = refl
    by_bits zero (suc zero) less small = refl
    by_bits (suc zero) zero less small = refl
    by_bits (suc zero) (suc zero) less small = refl
    by_bits (suc (suc x)) y less small = absurd (omega (arith, less))
    by_bits zero (suc (suc y)) less small = absurd (omega (arith, small))
    by_bits (suc zero) (suc (suc y)) less small = absurd (omega (arith, small))

-- a slot that was seen of live players but this one
pub seen_live : (seen live k i : ℕ) → (has_bit (bit_and seen live) i && not (i == k)) ≡ (has_bit seen i && (has_bit live i && not (i == k)))
seen_live seen live k i =
    ap (λ (b : Bool). b && not (i == k)) (both_bits seen live i) ∙ by_three (has_bit seen i) (has_bit live i) (not (i == k))
  where
    by_three : (a b c : Bool) → ((a && b) && c) ≡ (a && (b && c))
    by_three true b c = refl
    by_three false b c = refl

-- ---- one slot more

-- the list, and what is left of the slots
pub record ArePut (region : List Bounds) (six : List (List ℕ)) (slots rest : ℕ) (list : List Rec) : Type 0 where
  pub records : list ++ filter_map (near_player region six) (slots_in rest) ≡ filter_map (near_player region six) (slots_in slots)
  pub few : length list ≤ 64
  pub room : (slot : ℕ) → has_bit rest slot ≡ true → length list ≤ slot

module _ (region : List Bounds) (six : List (List ℕ)) (slots rest less k : ℕ) (list : List Rec) (put : ArePut region six slots rest list) (below : k < 64) (there : has_bit rest k ≡ true)
    (first : (i : ℕ) → i < k → has_bit rest i ≡ false) (less_is : (i : ℕ) → i < 64 → has_bit less i ≡ (has_bit rest i && not (i == k))) where
  left_is : slots_in rest ≡ k ∷ slots_in less
  left_is = slots_first rest less k below there first less_is

  abbrev rest_near : List Rec
  rest_near = filter_map (near_player region six) (slots_in less)

  -- a slot of the rest comes after this one
  after_first : (i : ℕ) → has_bit less i ≡ true → k < i
  after_first i set = elim (cases_Bool (nat_lt i 64)) [
    | inl low ↦
        let within = ltb-true i 64 low in
        let both : (has_bit rest i && not (i == k)) ≡ true = sym (less_is i within) ∙ set in
        let apart : i ≢ k = λ e. false≢true (sym (ap (λ (b : Bool). has_bit rest i && not b) (eq-eqb i k e) ∙ and-false (has_bit rest i)) ∙ both) in
        elim (cases_Bool (nat_lt i k)) [
          | inl before ↦ let lower = ltb-true i k before in absurd (false≢true (sym (ap (λ (b : Bool). b && not (i == k)) (first i lower)) ∙ both))
          | inr not ↦ let higher = ltb-false i k not in omega (arith, higher, apart)
        ]
    | inr high ↦ let least = ltb-false i 64 high in omega (arith, least, below)
  ]

  pub put_more : (r : Rec) → near_player region six k ≡ Some r → ArePut region six slots less (list ++ r ∷ [])
  put_more r is =
      let long = length-append list (r ∷ []) in
      let most = put.room k there in
      record {
        records = append_assoc list (r ∷ []) rest_near
            ∙ ap (λ (o : Option Rec). list ++ cons_option o rest_near) (sym is)
            ∙ ap (λ (ns : List ℕ). list ++ filter_map (near_player region six) ns) (sym left_is)
            ∙ put.records;
        few = omega (arith, long, most, below);
        room = λ i set. let later = after_first i set in omega (arith, long, most, later);
      }

  pub put_same : near_player region six k ≡ None → ArePut region six slots less list
  put_same is =
      let most = put.room k there in
      record {
        records = ap (λ (o : Option Rec). list ++ cons_option o rest_near) (sym is)
            ∙ ap (λ (ns : List ℕ). list ++ filter_map (near_player region six) ns) (sym left_is)
            ∙ put.records;
        few = put.few;
        room = λ i set. let later = after_first i set in omega (arith, most, later);
      }
