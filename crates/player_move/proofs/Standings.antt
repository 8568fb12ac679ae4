-- When a body is on the ground.
use Rattle.std.proofs.Common.{◌≡◌, ℕ, ◌<◌, ℤ, pos, neg_ℤ, ◌+ℤ◌, ◌<ℤ◌, Bool, true, false, List, length, slice_index_or, All, refl, sym, ap, subst, ◌∙◌, arith}
use Rattle.std.proofs.lemmas.Int.{ints}
use Rattle.std.proofs.lemmas.Bool.{both_ways}
use Rattle.std.proofs.lemmas.List.Folds.{Any-from_list_any, list_any_at}
use Rattle.arena_geo.specs.Bounds.{Bounds}
use Rattle.arena_geo.specs.Boxes.{overlaps_on, overlaps, box_moved_by, is_blocked}
use Rattle.arena_geo.specs.Laws.{HasInside}
use Rattle.arena_geo.proofs.Containment.{three_pass, all_three}
use Rattle.arena_geo.proofs.Overlaps.{overlaps_on-stays, third_fails}
use Rattle.player_move.specs.Walks.{downwards, ground_of}
use Rattle.player_move.specs.Moves.{move_of}
use Rattle.player_move.specs.Laws.{StandsOn, OnGroundIsStanding, GroundIsTested}

-- what an interval first meets 1 lower ends where it begins
ends_there : (lo hi l h : ℤ) → lo <ℤ hi → l <ℤ h → overlaps_on lo hi l h ≡ false
    → overlaps_on (lo +ℤ neg_ℤ (pos 1)) (hi +ℤ neg_ℤ (pos 1)) l h ≡ true → h ≡ lo
ends_there lo hi l h long other_long apart meets = grind (arith, ints)

met_lower : (lo hi l h : ℤ) → lo <ℤ hi → l <ℤ h → h ≡ lo
    → overlaps_on (lo +ℤ neg_ℤ (pos 1)) (hi +ℤ neg_ℤ (pos 1)) l h ≡ true
met_lower lo hi l h long other_long top = grind (arith, ints)

stands_on : (body solid : Bounds) → HasInside body → HasInside solid → overlaps body solid ≡ false
    → overlaps (box_moved_by body (downwards 1)) solid ≡ true → StandsOn body solid
stands_on body solid long other_long apart meets =
    let t = three_pass _ _ _ meets in
    let x = sym (overlaps_on-stays body.lo.x body.hi.x solid.lo.x solid.hi.x) ∙ t.x in
    let y = sym (overlaps_on-stays body.lo.y body.hi.y solid.lo.y solid.hi.y) ∙ t.y in
    let z = third_fails _ _ (overlaps_on body.lo.z body.hi.z solid.lo.z solid.hi.z) apart x y in
    record { top = ends_there body.lo.z body.hi.z solid.lo.z solid.hi.z long.z other_long.z z t.z; x = x; y = y }

meets_lower : (body solid : Bounds) → HasInside body → HasInside solid → StandsOn body solid
    → overlaps (box_moved_by body (downwards 1)) solid ≡ true
meets_lower body solid long other_long stands =
    all_three
    (overlaps_on-stays body.lo.x body.hi.x solid.lo.x solid.hi.x ∙ stands.x)
    (overlaps_on-stays body.lo.y body.hi.y solid.lo.y solid.hi.y ∙ stands.y)
    (met_lower body.lo.z body.hi.z solid.lo.z solid.hi.z long.z other_long.z stands.top)

not_met : (test b : Bool) → (test ≡ true → b ≡ true) → b ≡ false → test ≡ false
not_met true b some none = absurd (both_ways b none (some refl))
not_met false b some none = refl

each_at : (solids : List Bounds) (k : ℕ) (solid : Bounds) → All HasInside solids → k < length solids
    → slice_index_or solids k solid ≡ solid → HasInside solid
each_at solids k solid each within there = subst HasInside there (each k solid within)

pub on_ground_is_standing : OnGroundIsStanding
unfolding ground_of
on_ground_is_standing body solids long each_long free =
    let lower = box_moved_by body (downwards 1) in (
      λ meets.
          let any = Any-from_list_any (overlaps lower) solids meets in
          let apart = not_met (overlaps body any.1) (is_blocked body solids)
          (λ h. list_any_at (overlaps body) solids any.0 any.1 any.2 (ap (overlaps body) any.3 ∙ h)) free in
          let other_long = each_at solids any.0 any.1 each_long any.2 any.3 in
          (any.0, any.1, any.2, any.3, stands_on body any.1 long other_long apart any.4),
      λ any.
          let other_long = each_at solids any.0 any.1 each_long any.2 any.3 in
          list_any_at (overlaps lower) solids any.0 any.1 any.2 (ap (overlaps lower) any.3 ∙ meets_lower body any.1 long other_long any.4),
    )

pub ground_is_tested : GroundIsTested
unfolding move_of
ground_is_tested me cmd solids = refl
