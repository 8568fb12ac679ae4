-- The solids that overlap a place, found by the bits of those near it.
use Rattle.std.proofs.Common.{◌≡◌, ℕ, zero, suc, cond, inl, inr, ◌+◌, ◌-◌, ◌*◌, ◌/◌, ◌%◌, ◌^◌, ◌==◌, ◌<◌, ◌≤◌, Bool, true, false, List, [], ◌∷◌, ◌++◌, length, take, filter, get_or, replicate, refl, sym, ap, ◌∙◌, arith}
use Rattle.std.proofs.lemmas.List.{append_assoc, get_or-replicate}
use Rattle.std.proofs.lemmas.List.Elements.{filter_more}
use Rattle.std.proofs.lemmas.Int.{ints}
use Rattle.std.proofs.lemmas.Nat.Bits.{bit_at_ones}
use Rattle.std.proofs.lemmas.Bool.{cases_Bool, true≢false}
use Rattle.arena_geo.specs.Bounds.{Bounds}
use Rattle.arena_geo.specs.Boxes.{overlaps, touches}
use Rattle.box_strips.specs.Places.{has_bit, has_place}
use Rattle.box_strips.specs.Strips.{AreMarked}

overlapped_touches : (a b : Bounds) → overlaps a b ≡ true → touches b a ≡ true
overlapped_touches a b h = grind (arith, ints)

-- a solid without its bit doesn't overlap the place
unmarked : (place : Bounds) (solids : List Bounds) (bits : List ℕ) (k : ℕ) (d : Bounds) → AreMarked solids place bits → k < length solids → has_place bits k ≡ false → overlaps place (get_or solids k d) ≡ false
unmarked place solids bits k d marked within none = elim (cases_Bool (overlaps place (get_or solids k d))) [
  | inl over ↦ absurd (true≢false (sym (marked k d within (overlapped_touches place (get_or solids k d) over)) ∙ none))
  | inr apart ↦ apart
]

-- where each bit of so many words is set, all solids are marked
pub all_marked : (place : Bounds) (solids : List Bounds) (words : ℕ) → length solids ≤ 64 * words → AreMarked solids place (replicate words (2 ^ 64 - 1))
all_marked place solids words few k d within h =
    let below : k / 64 < words = omega (arith, within, few) in
    let small : k % 64 < 64 = omega arith in
    ap (λ (w : ℕ). has_bit w (k % 64)) (get_or-replicate words (k / 64) (2 ^ 64 - 1) 0 below)
    ∙ ap (λ (b : ℕ). b == 1) (bit_at_ones 64 (k % 64) small)

-- where no element from a place to another passes, those before the one pass as those before the other
none_between : (test : Bounds → Bool) (xs : List Bounds) (from to : ℕ) → from ≤ to → ((i : ℕ) (d : Bounds) → i < length xs → from ≤ i → i < to → test (get_or xs i d) ≡ false)
    → filter test (take to xs) ≡ filter test (take from xs)
none_between test [] zero zero less none = refl
none_between test [] zero (suc to) less none = refl
none_between test [] (suc from) zero less none = refl
none_between test [] (suc from) (suc to) less none = refl
none_between test (x ∷ xs) zero zero less none = refl
none_between test (x ∷ xs) (suc from) zero less none = absurd (omega (arith, less))
none_between test (x ∷ xs) zero (suc to) less none =
    ap (λ (b : Bool). cond b (x ∷ filter test (take to xs)) (filter test (take to xs))) (none 0 x (omega arith) (omega arith) (omega arith))
    ∙ none_between test xs 0 to (omega arith) (λ i d long least most. none (suc i) d (omega (arith, long)) (omega arith) (omega (arith, most)))
none_between test (x ∷ xs) (suc from) (suc to) less none =
    ap (λ (l : List Bounds). cond (test x) (x ∷ l) l)
    (none_between test xs from to (omega (arith, less)) (λ i d long least most. none (suc i) d (omega (arith, long)) (omega (arith, least)) (omega (arith, most))))

-- up to the next bit no solid overlaps
pub none_to : (place : Bounds) (solids : List Bounds) (bits : List ℕ) (from to : ℕ) → from ≤ to → AreMarked solids place bits → ((k : ℕ) → from ≤ k → k < to → has_place bits k ≡ false)
    → filter (overlaps place) (take to solids) ≡ filter (overlaps place) (take from solids)
none_to place solids bits from to less marked none =
    none_between (overlaps place) solids from to less (λ k d within least most. unmarked place solids bits k d marked within (none k least most))

-- one element more is put in if it passes
pub pushed : (test : Bounds → Bool) (xs : List Bounds) (from at : ℕ) (x : Bounds) (start before after : List Bounds) → at < length xs → x ≡ get_or xs at x
    → before ≡ start ++ filter test (take from xs) → after ≡ before ++ cond (test x) (x ∷ []) [] → filter test (take at xs) ≡ filter test (take from xs)
    → after ≡ start ++ filter test (take (at + 1) xs)
pushed test xs from at x start before after below x_is before_is after_is none =
    after_is
    ∙ ap (λ (l : List Bounds). l ++ cond (test x) (x ∷ []) []) before_is
    ∙ append_assoc start (filter test (take from xs)) (cond (test x) (x ∷ []) [])
    ∙ ap (λ (l : List Bounds). start ++ l)
    (ap (λ (l : List Bounds). l ++ cond (test x) (x ∷ []) []) (sym none)
    ∙ ap (λ (y : Bounds). filter test (take at xs) ++ cond (test y) (y ∷ []) []) x_is ∙ sym (filter_more test xs at x below))
