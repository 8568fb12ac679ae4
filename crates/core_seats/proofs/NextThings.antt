-- The next thing that a region touches.
use Rattle.std.proofs.Common.{◌≡◌, ℕ, zero, suc, ◌+◌, ◌<◌, false, List, [], ◌∷◌, length, get_or, refl, sym, ap, ◌∙◌, inl, inr, arith}
use Rattle.std.proofs.lemmas.Bool.{cases_Bool, cases_lt, true≢false}
use Rattle.arena_geo.specs.Bounds.{Bounds}
use Rattle.arena_geo.specs.Regions.{touches_region}
use Rattle.box_strips.specs.Places.{has_place, IsNextPlace}
use Rattle.core_seats.specs.ThingBits.{AreMarked, AreApart}

-- a thing without its bit isn't touched
unmarked : (region boxes : List Bounds) (bits : List ℕ) (k : ℕ) (d : Bounds) → AreMarked region boxes bits → k < length boxes → has_place bits k ≡ false
    → touches_region (get_or boxes k d) region ≡ false
unmarked region boxes bits k d marked within none = elim (cases_Bool (touches_region (get_or boxes k d) region)) [
  | inl touch ↦ absurd (true≢false (sym (marked.each k d within touch) ∙ none))
  | inr apart ↦ apart
]

module _ (region boxes : List Bounds) (bits : List ℕ) (from at : ℕ) (marked : AreMarked region boxes bits) (apart : AreApart region boxes from at) where
  -- up to the next bit
  pub apart_to : (place : ℕ) → IsNextPlace bits at (length boxes) place → AreApart region boxes from place
  apart_to place next k d least less within = elim (cases_lt k at) [
    | inl before ↦ apart k d least before within
    | inr after ↦ unmarked region boxes bits k d marked within (next.none k after less)
  ]

  -- the thing at the next bit isn't touched either
  pub apart_past : (place : ℕ) → IsNextPlace bits at (length boxes) place → ((d : Bounds) → touches_region (get_or boxes place d) region ≡ false) → AreApart region boxes from (place + 1)
  apart_past place next not k d least less within = elim (cases_lt k place) [
    | inl before ↦ apart_to place next k d least before within
    | inr after ↦ let same : k ≡ place = omega (arith, less, after) in ap (λ (n : ℕ). touches_region (get_or boxes n d) region) same ∙ not d
  ]

-- an element is the same whatever stands beyond the list
pub any_else : (boxes : List Bounds) (k : ℕ) (d e : Bounds) → k < length boxes → get_or boxes k d ≡ get_or boxes k e
any_else [] k d e within = absurd (omega (arith, within))
any_else (b ∷ boxes) zero d e within = refl
any_else (b ∷ boxes) (suc k) d e within = any_else boxes k d e (omega (arith, within))
