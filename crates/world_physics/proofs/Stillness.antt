-- Where a tick changes no record, none of its parts does.
use Rattle.std.proofs.Common.{◌≡◌, ◌≢◌, ℕ, zero, suc, ◌+◌, ◌≤◌, Bool, true, false, cond, ℤ, pos, ◌+ℤ◌, ◌-ℤ◌, ◌≤ℤ◌, List, [], ◌∷◌, take, Option, Some, None, refl, sym, ap, ◌∙◌, inl, inr, arith}
use Rattle.std.specs.List.{AllByRecursion}
use Rattle.std.specs.Option.{option_map}
use Rattle.std.proofs.lemmas.Bool.{cases_Bool, cases_eq}
use Rattle.std.proofs.lemmas.Int.{ints}
use Rattle.std.proofs.lemmas.Option.{same_Some}
use Rattle.entity_recs.specs.declared.rec.Rec.{Rec}
use Rattle.entity_recs.specs.Kinds.{is_solid}
use Rattle.entity_recs.specs.Records.{with_state}
use Rattle.arena_map.specs.declared.lift.Lift.{Lift}
use Rattle.arena_map.specs.declared.map_line.MapLine.{MapLine}
use Rattle.arena_map.specs.MapLines.{is_thing_line}
use Rattle.arena_map.specs.Things.{records_from, record_of}
use Rattle.arena_map.specs.Maps.{MapView, IsMap, IsThingInside, lift_of, entities_of}
use Rattle.arena_map.specs.Validity.{IsValidWorld}
use Rattle.arena_map.proofs.Kept.{each-of}
use Rattle.arena_map.proofs.ThingRecords.{own-id}
use Rattle.world_tree.specs.Live.{record_at}
use Rattle.world_tree.specs.Worlds.{WorldView}
use Rattle.world_physics.specs.declared.lift_step.LiftStep.{LiftStep}
use Rattle.world_physics.specs.Returns.{each_changed, is_due, record_after_returns, after_returns}
use Rattle.world_physics.specs.LiftSteps.{is_stopped, lift_after, moved_along, step_of, after_step, IsOnItsWay}
use Rattle.world_physics.specs.Ticks.{after_lift, after_thing, after_things, after_tick}
use Rattle.world_physics.proofs.Changes.{at-changed, changed_none, changed_all}
use Rattle.world_physics.proofs.Kept.{in_tick, StaysUnlessSolid, stays_kept, item_is_no_solid, kind_returned}
use Rattle.world_physics.proofs.Stepping.{step-stopped, way_at}
use Rattle.world_physics.proofs.Valid.{due_is_item}
use Rattle.world_physics.proofs.OwnSteps.{later, valid_thing}
use Rattle.world_physics.proofs.Riders.{lift_made}
use Rattle.world_physics.proofs.WholeSteps.{steps_are_whole}

-- ---- a step changes the record of its lift

higher_differs : (at speed : ℤ) → pos 1 ≤ℤ speed → at +ℤ speed ≡ at → ⊥
higher_differs at speed some same = omega (arith, ints)

lower_differs : (at speed : ℤ) → pos 1 ≤ℤ speed → at -ℤ speed ≡ at → ⊥
lower_differs at speed some same = omega (arith, ints)

pub step_changes : (lift : Lift) (r : Rec) → IsOnItsWay lift r → lift_after lift r ≢ r
step_changes lift r on same =
    let whole = steps_are_whole lift r on in
    let z = ap (λ (s : Rec). s.origin.z) same in
    let state = ap (λ (s : Rec). s.state) same in
    let n = on.numbers in
    elim (cases_eq r.state 0) [
      | inl rising ↦ elim (whole.rises rising) [
        | inl up ↦ higher_differs r.origin.z lift.speed n.least_speed (sym up ∙ z)
        | inr top ↦ let falls = whole.highest top in omega (arith, falls, state, rising)
      ]
      | inr falling ↦ elim (whole.falls falling) [
        | inl down ↦ lower_differs r.origin.z lift.speed n.least_speed (sym down ∙ z)
        | inr bottom ↦ let rises = whole.lowest bottom in falling (sym state ∙ rises)
      ]
    ]

-- the record of a lift after a step that is done
done_at : (map : MapView) (lift : Lift) (records : List (Option Rec)) (id : ℕ) (r : Rec) → is_stopped map (step_of lift r) records ≡ false → record_at records id ≡ Some r
    → record_at (after_step map (step_of lift r) records) id ≡ Some (lift_after lift r)
unfolding after_step
done_at map lift records id r free at =
    ap (λ b. record_at (cond b records (each_changed (moved_along (step_of lift r)) records)) id) free
    ∙ at-changed (moved_along (step_of lift r)) records id
    ∙ ap (option_map (moved_along (step_of lift r))) at
    ∙ ap Some (lift_made lift r)

-- ---- the things of a map, one after another

module _ (map : MapView) (is_map : IsMap map) where
  -- where all things together leave the records as they were, the first one does
  first_still : (first : ℕ) (line : MapLine) (lines : List MapLine) (records : List (Option Rec)) → IsValidWorld map records
      → AllByRecursion (λ other. is_thing_line other ≡ true) lines → (record_of first line).id ≡ first
      → after_things map (after_thing map records (record_of first line)) (records_from (first + 1) lines) ≡ records
      → after_thing map records (record_of first line) ≡ records
  first_still first line lines records valid each own still = by (lift_of map first) (record_at records first) refl refl
    where
      here : after_thing map records (record_of first line) ≡ after_lift map records (lift_of map first) (record_at records first)
      here = ap (λ (k : ℕ). after_lift map records (lift_of map k) (record_at records k)) own

      by : (l : Option Lift) (o : Option Rec) → lift_of map first ≡ l → record_at records first ≡ o → after_thing map records (record_of first line) ≡ records
      by None o has at = here ∙ ap (λ (l : Option Lift). after_lift map records l (record_at records first)) has
      by (Some lift) None has at = here ∙ ap (λ (l : Option Lift). after_lift map records l (record_at records first)) has ∙ ap (after_lift map records (Some lift)) at
      by (Some lift) (Some r) has at =
          let next = after_thing map records (record_of first line) in
          let is : next ≡ after_step map (step_of lift r) records =
          here ∙ ap (λ (l : Option Lift). after_lift map records l (record_at records first)) has ∙ ap (after_lift map records (Some lift)) at in
          elim (cases_Bool (is_stopped map (step_of lift r) records)) [
            | inl stopped ↦ is ∙ sym (step-stopped map (step_of lift r) records stopped)
            | inr free ↦
                let moved : record_at next first ≡ Some (lift_after lift r) = ap (λ (rs : List (Option Rec)). record_at rs first) is ∙ done_at map lift records first r free at in
                let stays = later map is_map first lift has (first + 1) lines next (lift_after lift r) (valid_thing map is_map first lift has records (record_of first line) valid)
                (omega arith) each moved in
                let same : Some (lift_after lift r) ≡ Some r = sym stays ∙ ap (λ (rs : List (Option Rec)). record_at rs first) still ∙ at in
                absurd (step_changes lift r (way_at map records first lift r is_map valid has at) (same_Some (lift_after lift r) r same))
          ]

  -- and so does each
  each_still : (first : ℕ) (lines : List MapLine) (records : List (Option Rec)) → IsValidWorld map records → AllByRecursion (λ other. is_thing_line other ≡ true) lines
      → after_things map records (records_from first lines) ≡ records → (count : ℕ) → after_things map records (take count (records_from first lines)) ≡ records
  each_still first [] records valid each still zero = refl
  each_still first [] records valid each still (suc count) = refl
  each_still first (line ∷ lines) records valid each still zero = refl
  each_still first (line ∷ lines) records valid each still (suc count) =
      let thing = record_of first line in
      let one = first_still first line lines records valid each.1 (own-id first line each.0) still in
      let rest : after_things map records (records_from (first + 1) lines) ≡ records =
      ap (λ (rs : List (Option Rec)). after_things map rs (records_from (first + 1) lines)) (sym one) ∙ still in
      ap (λ (rs : List (Option Rec)). after_things map rs (take count (records_from (first + 1) lines))) one ∙ each_still (first + 1) lines records valid each.1 rest count

-- ---- the returns

-- where a tick leaves the records as they were, no item returns
none_returns : (map : MapView) (frame : ℕ) (records : List (Option Rec)) → IsMap map → IsValidWorld map records → after_tick map frame records ≡ records
    → (k : ℕ) (r : Rec) → record_at records k ≡ Some r → record_after_returns frame r ≡ r
none_returns map frame records is_map valid still k r at = by (is_due frame r) refl
  where
    by : (b : Bool) → is_due frame r ≡ b → cond b (with_state r 0) r ≡ r
    by false e = refl
    by true e =
        let stays = in_tick map StaysUnlessSolid frame records is_map valid (stays_kept map is_map) k r r at (ap (λ (rs : List (Option Rec)). record_at rs k) still ∙ at) in
        let item = due_is_item frame r e in
        let same : r ≡ record_after_returns frame r = stays.same (ap is_solid (kind_returned frame r) ∙ item_is_no_solid r.kind item) in
        sym (same ∙ ap (λ b. cond b (with_state r 0) r) e)

-- so the records are as they were after the returns, and after each lift's step
pub returns_still : (map : MapView) (frame : ℕ) (records : List (Option Rec)) → IsMap map → IsValidWorld map records → after_tick map frame records ≡ records
    → after_returns frame records ≡ records
returns_still map frame records is_map valid still =
    sym (changed_all (record_after_returns frame) 0 records records (changed_none (record_after_returns frame) records) (λ k r past at. none_returns map frame records is_map valid still k r at))

pub things_still : (map : MapView) (frame : ℕ) (records : List (Option Rec)) → IsMap map → IsValidWorld map records → after_tick map frame records ≡ records
    → (count : ℕ) → after_things map (after_returns frame records) (take count (entities_of map)) ≡ records
unfolding after_tick
things_still map frame records is_map valid still count =
    let none = returns_still map frame records is_map valid still in
    let all : after_things map records (entities_of map) ≡ records = ap (λ (rs : List (Option Rec)). after_things map rs (entities_of map)) (sym none) ∙ still in
    ap (λ (rs : List (Option Rec)). after_things map rs (take count (entities_of map))) none
    ∙ each_still map is_map 64 map.things records valid
    (each-of (IsThingInside map.bounds) (λ line. is_thing_line line ≡ true) map.things (λ line inside. inside.thing) is_map.things) all count

-- ---- the world

-- the world is as it was, where the records are after the returns and after each of the first things
pub record IsStillSoFar (map : MapView) (frame count : ℕ) (old new : WorldView) : Type 0 where
  pub stays : ((j : ℕ) → j ≤ count → after_things map (after_returns frame old.records) (take j (entities_of map)) ≡ old.records) → new ≡ old

pub still_first : (map : MapView) (frame : ℕ) (old new : WorldView) → new.records ≡ after_returns frame old.records → (new.records ≡ old.records → new ≡ old)
    → IsStillSoFar map frame 0 old new
still_first map frame old new made same = record { stays = λ h. same (made ∙ h 0 (omega arith)) }

-- one thing more
pub still_next : (map : MapView) (frame count next : ℕ) (old w new : WorldView) → next ≡ count + 1
    → w.records ≡ after_things map (after_returns frame old.records) (take count (entities_of map))
    → new.records ≡ after_things map (after_returns frame old.records) (take next (entities_of map)) → IsStillSoFar map frame count old w
    → (new.records ≡ w.records → new ≡ w) → IsStillSoFar map frame next old new
still_next map frame count next old w new next_is before after still same = record {
  stays = λ h.
      same (after ∙ h next (omega arith) ∙ sym (before ∙ h count (omega (arith, next_is)))) ∙ still.stays (λ j few. h j (omega (arith, few, next_is)));
}

-- where a tick leaves the records as they were, it leaves the world as it was
pub still_last : (map : MapView) (frame count : ℕ) (old new : WorldView) → IsMap map → IsValidWorld map old.records → new.records ≡ after_tick map frame old.records
    → IsStillSoFar map frame count old new → new.records ≡ old.records → new ≡ old
still_last map frame count old new is_map valid made still same =
    still.stays (λ j few. things_still map frame old.records is_map valid (sym made ∙ same) j)

-- a step that is done changes the records
pub done_moves : (map : MapView) (records new : List (Option Rec)) (id : ℕ) (lift : Lift) (r : Rec) (step : LiftStep) → IsMap map → IsValidWorld map records
    → lift_of map id ≡ Some lift → record_at records id ≡ Some r → step ≡ step_of lift r → is_stopped map step records ≡ false → new ≡ after_step map step records
    → new ≡ records → ⊥
done_moves map records new id lift r step is_map valid has at step_is free made still =
    let here = made ∙ ap (λ (s : LiftStep). after_step map s records) step_is in
    let none = ap (λ (s : LiftStep). is_stopped map s records) (sym step_is) ∙ free in
    let moved = ap (λ (rs : List (Option Rec)). record_at rs id) here ∙ done_at map lift records id r none at in
    step_changes lift r (way_at map records id lift r is_map valid has at)
    (same_Some (lift_after lift r) r (sym moved ∙ ap (λ (rs : List (Option Rec)). record_at rs id) still ∙ at))
