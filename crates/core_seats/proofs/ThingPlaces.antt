-- The index of the things misses none of those that touch a region.
use Rattle.std.proofs.Common.{◌≡◌, ℕ, ◌+◌, ◌<◌, Bool, true, false, ◌||◌, List, [], ◌∷◌, ◌++◌, length, take, get_or, refl, sym, ap, ◌∙◌, inl, inr}
use Rattle.std.proofs.lemmas.Bool.{cases_Bool}
use Rattle.std.proofs.lemmas.List.{take_more}
use Rattle.arena_geo.specs.Bounds.{Bounds}
use Rattle.arena_geo.specs.Boxes.{touches}
use Rattle.arena_geo.specs.Regions.{touches_region}
use Rattle.box_strips.specs.Places.{KeepsPlaces}
use Rattle.box_strips.specs.Strips.{AreMarked}
use Rattle.core_seats.specs.ThingStrips.{MarksBoxes}

touches_last : (place : Bounds) (boxes : List Bounds) (one : Bounds) → touches_region place (boxes ++ one ∷ []) ≡ true → touches place one ≡ false → touches_region place boxes ≡ true
touches_last place [] one h apart = ap (λ (b : Bool). b || false) (sym apart) ∙ h
touches_last place (x ∷ boxes) one h apart = by_test (touches place x) h (λ rest. touches_last place boxes one rest apart)
  where
    by_test : (b : Bool) → (b || touches_region place (boxes ++ one ∷ [])) ≡ true → (touches_region place (boxes ++ one ∷ []) ≡ true → touches_region place boxes ≡ true)
        → (b || touches_region place boxes) ≡ true
    by_test true h more = refl
    by_test false h more = more h

-- one box of the region more
pub one_box_more : (boxes region : List Bounds) (n : ℕ) (one : Bounds) (old new : List ℕ) → n < length region → one ≡ get_or region n one → KeepsPlaces old new → AreMarked boxes one new
    → MarksBoxes boxes (take n region) old → MarksBoxes boxes (take (n + 1) region) new
one_box_more boxes region n one old new within one_is keeps adds before k d there h =
    let place = get_or boxes k d in
    elim (cases_Bool (touches place one)) [
      | inl touch ↦ adds k d there touch
      | inr apart ↦
          let last : touches place (get_or region n one) ≡ false = ap (touches place) (sym one_is) ∙ apart in
          keeps k (before k d there (touches_last place (take n region) (get_or region n one) (ap (touches_region place) (sym (take_more region n one within)) ∙ h) last))
    ]
