-- Bits of a word of slots, set and cleared, and the place at which the things of the map begin.
use Rattle.std.proofs.Common.{◌≡◌, ◌≢◌, ℕ, ◌*◌, ◌^◌, ◌%◌, ◌<◌, ◌==◌, Bool, true, false, ◌||◌, List, [], ◌∷◌, length, drop, map, refl, ap, sym, ◌∙◌, subst, inl, inr, arith, bit_or, w64}
use Rattle.std.specs.Prelude.{filter, nat_lt, nat_le}
use Rattle.std.specs.List.Sorted.{IsStrictlyIncreasing}
use Rattle.std.proofs.lemmas.Bool.{cases_Bool, eqb-true, eq-eqb, ltb-true, ltb-false}
use Rattle.std.proofs.lemmas.Nat.Bits.{bit_at_set_same, bit_at_set_other}
use Rattle.entity_recs.specs.declared.rec.Rec.{Rec}
use Rattle.areanode.specs.Words.{has_bit}
use Rattle.core_seats.proofs.KeptNear.{IsBelowAll, AreRising, are_rising}

differ : (a b : ℕ) → (a == b) ≡ false → a ≢ b
differ a b other e = let same = eq-eqb a b e in cc

-- a bit is set
pub bit_set : (n k i : ℕ) → k < 64 → has_bit (bit_or n (1 * 2 ^ k % 2 ^ 64)) i ≡ ((k == i) || has_bit n i)
bit_set n k i below = elim (cases_Bool (k == i)) [
  | inl same ↦
      let e : k ≡ i = eqb-true k i same in
      subst (λ (j : ℕ). has_bit (bit_or n (1 * 2 ^ k % 2 ^ 64)) j ≡ ((k == j) || has_bit n j)) e
      (ap (λ (b : ℕ). b == 1) (bit_at_set_same w64 n k below) ∙ sym (ap (λ (b : Bool). b || has_bit n k) (eq-eqb k k refl)))
  | inr other ↦
      let apart : i ≢ k = λ e. differ k i other (sym e) in
      ap (λ (b : ℕ). b == 1) (bit_at_set_other w64 n k below i apart) ∙ sym (ap (λ (b : Bool). b || has_bit n i) other)
]

-- the records of things come after those of players
high_only : (n : ℕ) (rs : List Rec) → 63 < n → IsBelowAll n (map (λ (r : Rec). r.id) rs) → filter (λ (r : Rec). nat_le 64 r.id) rs ≡ rs
high_only n [] high above = refl
high_only n (r ∷ rs) high above = let is : nat_le 64 r.id ≡ true = grind arith in rw is (ap (λ (qs : List Rec). r ∷ qs) (high_only n rs high above.1))

none_low : (n : ℕ) (rs : List Rec) → 63 < n → IsBelowAll n (map (λ (r : Rec). r.id) rs) → filter (λ (r : Rec). nat_lt r.id 64) rs ≡ []
none_low n [] high above = refl
none_low n (r ∷ rs) high above = let is : nat_lt r.id 64 ≡ false = grind arith in rw is (none_low n rs high above.1)

after_low : (rs : List Rec) → AreRising (map (λ (r : Rec). r.id) rs)
    → drop (length (filter (λ (r : Rec). nat_lt r.id 64) rs)) rs ≡ filter (λ (r : Rec). nat_le 64 r.id) rs
after_low [] rising = refl
after_low (r ∷ rs) rising = elim (cases_Bool (nat_lt r.id 64)) [
  | inl low ↦
      let less = ltb-true r.id 64 low in
      let is : nat_le 64 r.id ≡ false = grind arith in
      rw (low, is) (after_low rs rising.1)
  | inr high ↦
      let most = ltb-false r.id 64 high in
      let is : nat_le 64 r.id ≡ true = grind arith in
      let more : 63 < r.id = omega (arith, most) in
      rw (high, is, none_low r.id rs more rising.0) (ap (λ (qs : List Rec). r ∷ qs) (sym (high_only r.id rs more rising.0)))
]

pub things_after_players : (rs : List Rec) → IsStrictlyIncreasing (map (λ (r : Rec). r.id) rs)
    → drop (length (filter (λ (r : Rec). nat_lt r.id 64) rs)) rs ≡ filter (λ (r : Rec). nat_le 64 r.id) rs
things_after_players rs rising = after_low rs (are_rising (map (λ (r : Rec). r.id) rs) rising)

-- ---- one record more

pub no_bit : (i : ℕ) → i < 64 → has_bit 0 i ≡ false
no_bit i below = grind arith
