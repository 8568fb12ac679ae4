-- The index misses no box that touches another one.
use Rattle.std.proofs.Common.{◌≡◌, ℕ, ◌+◌, ◌-◌, ◌/◌, ◌^◌, ◌<◌, ◌≤◌, min, true, List, get_or, ℤ, ◌≤ℤ◌, ◌-ℤ◌, unsigned_abs, sym, ap, ◌∙◌, subst, inl, inr, arith}
use Rattle.std.specs.Int.{int_max}
use Rattle.std.proofs.lemmas.Bool.{cases_eq}
use Rattle.std.proofs.lemmas.Int.{ints}
use Rattle.arena_geo.specs.Bounds.{Bounds}
use Rattle.arena_geo.specs.Boxes.{touches_on}
use Rattle.arena_geo.proofs.Containment.{three_pass}
use Rattle.arena_geo.proofs.Strips.{shr-mono, past-mono, min-mono}
use Rattle.box_strips.specs.Places.{has_place}
use Rattle.box_strips.specs.Strips.{AxisView, StripsView, strip_of, IsInRow, HasEnds, HasInterval, KeepsAxis, IsIndexOf, AreMarked}
use Rattle.box_strips.proofs.InRows.{stays_in_row}

-- a place after another lies in no strip before the other's
strips_rise : (axis : AxisView) (a b : ℤ) → a ≤ℤ b → strip_of axis a ≤ strip_of axis b
strips_rise axis a b less = min-mono _ _ (axis.strips - 1) (shr-mono _ _ axis.shift (past-mono axis.from a b less))

-- what begins at a place or before it is in the row of the place's strip
pub in_begun : (axis : AxisView) (place row : ℕ) (lo hi at : ℤ) → HasInterval axis place lo hi → lo ≤ℤ at → row ≡ strip_of axis at → row < axis.strips → IsInRow axis.words axis.begun row place
in_begun axis place row lo hi at has less row_is within =
    has.begun row (subst (λ (n : ℕ). strip_of axis lo ≤ n) (sym row_is) (strips_rise axis lo at less)) within

-- what ends at a place or after it is in the row of the place's strip
pub in_ended : (axis : AxisView) (place row : ℕ) (lo hi at : ℤ) → HasInterval axis place lo hi → at ≤ℤ hi → row ≡ axis.strips - 1 - strip_of axis at → row < axis.strips
    → IsInRow axis.words axis.ended row place
in_ended axis place row lo hi at has less row_is within = has.ended row (below (axis.strips - 1) _ _ row (strips_rise axis at hi less) row_is) within
  where
    below : (last a b row : ℕ) → a ≤ b → row ≡ last - a → last - b ≤ row
    below last a b row less same = omega (arith, less, same)

-- the strips are the same where nothing but the rows changes
same_strip : (old new : AxisView) (at : ℤ) → KeepsAxis old new → strip_of new at ≡ strip_of old at
same_strip old new at keeps =
    ap (λ (f : ℤ). min (unsigned_abs (int_max at f -ℤ f) / 2 ^ new.shift) (new.strips - 1)) keeps.from
    ∙ ap (λ (n : ℕ). min (unsigned_abs (int_max at old.from -ℤ old.from) / 2 ^ n) (new.strips - 1)) keeps.shift
    ∙ ap (λ (n : ℕ). min (unsigned_abs (int_max at old.from -ℤ old.from) / 2 ^ old.shift) (n - 1)) keeps.strips

same_end : (old new : AxisView) (at : ℤ) → KeepsAxis old new → new.strips - 1 - strip_of new at ≡ old.strips - 1 - strip_of old at
same_end old new at keeps =
    ap (λ (n : ℕ). new.strips - 1 - n) (same_strip old new at keeps) ∙ ap (λ (n : ℕ). n - 1 - strip_of old at) keeps.strips

ends_stay : (old new : AxisView) (place : ℕ) (lo hi : ℤ) → KeepsAxis old new → HasEnds old place lo hi → HasEnds new place lo hi
ends_stay old new place lo hi keeps has = record {
  begun =
      subst (λ (n : ℕ). IsInRow new.words new.begun n place) (sym (same_strip old new lo keeps))
      (subst (λ (w : ℕ). IsInRow w new.begun (strip_of old lo) place) (sym keeps.words)
      (stays_in_row old.words old.begun new.begun (strip_of old lo) place keeps.begun has.begun));
  ended =
      subst (λ (n : ℕ). IsInRow new.words new.ended n place) (sym (same_end old new hi keeps))
      (subst (λ (w : ℕ). IsInRow w new.ended (old.strips - 1 - strip_of old hi) place) (sym keeps.words)
      (stays_in_row old.words old.ended new.ended (old.strips - 1 - strip_of old hi) place keeps.ended has.ended));
}

-- each of the first boxes has its ends in the rows
abbrev pub HaveEnds : AxisView → (lo hi : ℕ → ℤ) → ℕ → Type 0
HaveEnds axis lo hi n = (k : ℕ) → k < n → HasEnds axis k (lo k) (hi k)

-- one box more
pub one_more : (old new : AxisView) (lo hi : ℕ → ℤ) (n : ℕ) (from to : ℤ) → KeepsAxis old new → HaveEnds old lo hi n → HasEnds new n from to → from ≡ lo n → to ≡ hi n → HaveEnds new lo hi (n + 1)
one_more old new lo hi n from to keeps before here from_is to_is k below =
    elim (cases_eq k n) [
      | inl same ↦
          subst (λ (j : ℕ). HasEnds new j (lo j) (hi j)) (sym same)
          (subst (λ (z : ℤ). HasEnds new n (lo n) z) to_is (subst (λ (z : ℤ). HasEnds new n z to) from_is here))
      | inr other ↦ ends_stay old new k (lo k) (hi k) keeps (before k (omega (arith, below, other)))
    ]

begins_before : (lo hi other_lo other_hi : ℤ) → touches_on lo hi other_lo other_hi ≡ true → lo ≤ℤ other_hi
begins_before lo hi other_lo other_hi h = grind (arith, ints)

ends_after : (lo hi other_lo other_hi : ℤ) → touches_on lo hi other_lo other_hi ≡ true → other_lo ≤ℤ hi
ends_after lo hi other_lo other_hi h = grind (arith, ints)

-- the bits have each box that begins at a place or before it
abbrev pub HasBegun : AxisView → ℤ → List ℕ → Type 0
HasBegun axis at bits = (place : ℕ) (lo hi : ℤ) → HasInterval axis place lo hi → lo ≤ℤ at → has_place bits place ≡ true

-- the bits have each box that ends at a place or after it
abbrev pub HasEnded : AxisView → ℤ → List ℕ → Type 0
HasEnded axis at bits = (place : ℕ) (lo hi : ℤ) → HasInterval axis place lo hi → at ≤ℤ hi → has_place bits place ≡ true

-- a box that touches this one is in all four rows
pub in_all : (index : StripsView) (one : Bounds) (a b c d bits : List ℕ) → HasBegun index.x one.hi.x a → HasEnded index.x one.lo.x b → HasBegun index.y one.hi.y c → HasEnded index.y one.lo.y d
    → ((place : ℕ) → has_place a place ≡ true → has_place b place ≡ true → has_place c place ≡ true → has_place d place ≡ true → has_place bits place ≡ true)
    → (boxes : List Bounds) → IsIndexOf index boxes → AreMarked boxes one bits
in_all index one a b c d bits begun_x ended_x begun_y ended_y common boxes is k e within h =
    let other = get_or boxes k e in
    let on = three_pass _ _ _ h in
    let x = is.x k e within in
    let y = is.y k e within in
    common k
    (begun_x k other.lo.x other.hi.x x (begins_before other.lo.x other.hi.x one.lo.x one.hi.x on.x))
    (ended_x k other.lo.x other.hi.x x (ends_after other.lo.x other.hi.x one.lo.x one.hi.x on.x))
    (begun_y k other.lo.y other.hi.y y (begins_before other.lo.y other.hi.y one.lo.y one.hi.y on.y))
    (ended_y k other.lo.y other.hi.y y (ends_after other.lo.y other.hi.y one.lo.y one.hi.y on.y))
