-- The step of a lift, from what the code does one after another.
use Rattle.std.proofs.Common.{◌≡◌, ◌≢◌, ℕ, ◌==◌, true, false, cond, List, Option, Some, None, IsSome, is_some, slice_set, refl, sym, ap, ◌∙◌, subst, inl, inr, arith, get_or-set_same, get_or-set_other}
use Rattle.std.specs.Option.{option_map}
use Rattle.std.proofs.lemmas.Bool.{cases_eq}
use Rattle.std.proofs.lemmas.Bool.Decides.{nat_tests}
use Rattle.std.proofs.lemmas.List.{same_lists, get_or_default, length-set}
use Rattle.std.proofs.lemmas.Option.{same_Some}
use Rattle.entity_recs.specs.declared.rec.Rec.{Rec}
use Rattle.arena_map.specs.declared.lift.Lift.{Lift}
use Rattle.arena_map.specs.Maps.{MapView, IsMap, lift_of}
use Rattle.arena_map.specs.Validity.{IsValidWorld}
use Rattle.world_tree.specs.Live.{record_at}
use Rattle.world_tree.specs.Worlds.{WorldView, with_record, without_id}
use Rattle.world_tree.proofs.LiveRecords.{live_below}
use Rattle.world_physics.specs.declared.lift_step.LiftStep.{LiftStep}
use Rattle.world_physics.specs.Returns.{each_changed}
use Rattle.world_physics.specs.LiftSteps.{IsOnItsWay, step_of, is_stopped, carried_along, moved_along, after_step}
use Rattle.world_physics.specs.Ticks.{after_lift}
use Rattle.world_physics.proofs.Changes.{at-changed, length-changed, relinked}
use Rattle.world_physics.proofs.LiftRecords.{IsStepAt, has_lift, on_its_way}
use Rattle.world_physics.proofs.Valid.{step_keeps_valid}

-- the live record of a lift is on its way
pub way_at : (map : MapView) (records : List (Option Rec)) (id : ℕ) (lift : Lift) (r : Rec) → IsMap map → IsValidWorld map records → lift_of map id ≡ Some lift
    → record_at records id ≡ Some r → IsOnItsWay lift r
way_at map records id lift r is_map valid has at =
    let found = has_lift map records id lift is_map valid has in
    subst (IsOnItsWay lift) (same_Some found.r r (sym found.at ∙ at)) (on_its_way map id lift found.r found.is)

-- a step that is stopped changes nothing
pub step-stopped : (map : MapView) (step : LiftStep) (records : List (Option Rec)) → is_stopped map step records ≡ true → records ≡ after_step map step records
unfolding after_step
step-stopped map step records stopped = sym (ap (λ b. cond b records (each_changed (moved_along step) records)) stopped)

-- and one that isn't moves all
step-done : (map : MapView) (step : LiftStep) (records : List (Option Rec)) → is_stopped map step records ≡ false → each_changed (moved_along step) records ≡ after_step map step records
unfolding after_step
step-done map step records free = sym (ap (λ b. cond b records (each_changed (moved_along step) records)) free)

module _ (map : MapView) (records : List (Option Rec)) (id : ℕ) (step : LiftStep) (valid : IsValidWorld map records) (is : IsStepAt map records id step) where
  -- the lift is live after who is carried has moved
  pub still_live : IsSome (record_at (each_changed (carried_along step) records) step.after.id)
  still_live =
      ap (λ (k : ℕ). is_some (record_at (each_changed (carried_along step) records) k)) is.valid_after.own_id
      ∙ ap is_some (at-changed (carried_along step) records id)
      ∙ ap (λ o. is_some (option_map (carried_along step) o)) is.at

  -- the record of another id has another id than the lift's
  pub own-id : (k : ℕ) (r : Rec) → record_at records k ≡ Some r → k ≢ id → (r.id == step.before.id) ≡ false
  own-id k r at apart =
      let own = (valid.each k r at).own_id in
      let lift = is.valid.own_id in
      let e : r.id ≢ step.before.id = λ same. apart (sym own ∙ same ∙ lift) in
      grind (arith, nat_tests)

  other : (k : ℕ) → k ≢ id → (o : Option Rec) → record_at records k ≡ o → option_map (carried_along step) o ≡ option_map (moved_along step) o
  other k apart None at = refl
  other k apart (Some r) at = sym (ap (λ b. Some (cond b step.after (carried_along step r))) (own-id k r at apart))

  here : option_map (moved_along step) (record_at records id) ≡ Some step.after
  here =
      let same : (step.before.id == step.before.id) ≡ true = grind (arith, nat_tests) in
      ap (option_map (moved_along step)) is.at ∙ ap (λ b. Some (cond b step.after (carried_along step step.before))) same

  place : (k : ℕ) → record_at (slice_set (each_changed (carried_along step) records) id (Some step.after)) k ≡ record_at (each_changed (moved_along step) records) k
  place k = elim (cases_eq k id) [
    | inl same ↦
        let within = live_below records id step.before is.at in
        ap (record_at (slice_set (each_changed (carried_along step) records) id (Some step.after))) same
        ∙ get_or-set_same (each_changed (carried_along step) records) id (Some step.after) None (omega (arith, within, length-changed (carried_along step) records))
        ∙ sym here
        ∙ sym (at-changed (moved_along step) records id)
        ∙ sym (ap (record_at (each_changed (moved_along step) records)) same)
    | inr apart ↦
        get_or-set_other (each_changed (carried_along step) records) id k (Some step.after) None apart
        ∙ at-changed (carried_along step) records k
        ∙ other k apart (record_at records k) refl
        ∙ sym (at-changed (moved_along step) records k)
  ]

  -- the carried, and then the lift, is all that moves
  pub lift-last : slice_set (each_changed (carried_along step) records) id (Some step.after) ≡ each_changed (moved_along step) records
  lift-last =
      let carried = each_changed (carried_along step) records in
      let one = length-set carried id (Some step.after) in
      let two = length-changed (carried_along step) records in
      let three = length-changed (moved_along step) records in
      same_lists (slice_set carried id (Some step.after)) (each_changed (moved_along step) records) (one ∙ two ∙ sym three) (λ k d within.
      get_or_default (slice_set carried id (Some step.after)) k d None within
      ∙ place k
      ∙ sym (get_or_default (each_changed (moved_along step) records) k d None (omega (arith, within, one, two, three))))

  -- what the code leaves where the step is done
  pub relinked-done : (w new : WorldView) → w.records ≡ each_changed (carried_along step) records → new ≡ with_record (without_id w step.after.id) step.after
      → is_stopped map step records ≡ false → new.records ≡ after_step map step records
  relinked-done w new carried made free =
      ap (λ (v : WorldView). v.records) made
      ∙ relinked w.records step.after.id step.after
      ∙ ap (λ (k : ℕ). slice_set w.records k (Some step.after)) is.valid_after.own_id
      ∙ ap (λ (rs : List (Option Rec)). slice_set rs id (Some step.after)) carried
      ∙ lift-last
      ∙ step-done map step records free

-- the step of the lift with this record
pub after_lift-is : (map : MapView) (records new : List (Option Rec)) (id : ℕ) (lift : Lift) (r : Rec) (step : LiftStep) → record_at records id ≡ Some r → step ≡ step_of lift r
    → new ≡ after_step map step records → new ≡ after_lift map records (Some lift) (record_at records id)
after_lift-is map records new id lift r step at step_is new_is =
    new_is ∙ ap (λ s. after_step map s records) step_is ∙ sym (ap (after_lift map records (Some lift)) at)

-- which leaves a valid world
pub after_lift_is_valid : (map : MapView) (records new : List (Option Rec)) (id : ℕ) (step : LiftStep) → IsMap map → IsValidWorld map records → IsStepAt map records id step
    → new ≡ after_step map step records → IsValidWorld map new
after_lift_is_valid map records new id step is_map valid is new_is = subst (IsValidWorld map) (sym new_is) (step_keeps_valid map records id step is_map valid is)
