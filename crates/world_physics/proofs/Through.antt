-- What holds through the steps of all lifts.
use Rattle.std.proofs.Common.{◌≡◌, ℕ, Bool, true, false, cond, List, [], ◌∷◌, Option, Some, None, refl, ap, ◌∙◌}
use Rattle.std.specs.Option.{option_map}
use Rattle.entity_recs.specs.declared.rec.Rec.{Rec}
use Rattle.arena_map.specs.declared.lift.Lift.{Lift}
use Rattle.arena_map.specs.Maps.{MapView, IsMap, lift_of}
use Rattle.arena_map.specs.Validity.{IsValidWorld}
use Rattle.world_tree.specs.Live.{record_at}
use Rattle.world_physics.specs.declared.lift_step.LiftStep.{LiftStep}
use Rattle.world_physics.specs.Returns.{each_changed}
use Rattle.world_physics.specs.LiftSteps.{step_of, is_stopped, moved_along, after_step}
use Rattle.world_physics.specs.Ticks.{after_lift, after_thing, after_things}
use Rattle.world_physics.proofs.Changes.{at-changed}
use Rattle.world_physics.proofs.LiftRecords.{IsStepAt, step_at}
use Rattle.world_physics.proofs.Valid.{step_keeps_valid}

-- ---- facts about all records

-- a fact that each step keeps
pub record IsKept (map : MapView) (P : List (Option Rec) → Type 0) : Type 0 where
  pub by : (records : List (Option Rec)) (id : ℕ) (step : LiftStep) → IsValidWorld map records → IsStepAt map records id step → P records → P (after_step map step records)

-- it holds after the step of one thing
pub after_one : (map : MapView) (P : List (Option Rec) → Type 0) → IsMap map → IsKept map P → (records : List (Option Rec)) (thing : Rec) → IsValidWorld map records → P records
    → P (after_thing map records thing)
after_one map P is_map kept records thing valid holds = by (lift_of map thing.id) (record_at records thing.id) refl refl
  where
    by : (l : Option Lift) (o : Option Rec) → lift_of map thing.id ≡ l → record_at records thing.id ≡ o → P (after_lift map records l o)
    by None o has at = holds
    by (Some lift) None has at = holds
    by (Some lift) (Some r) has at = kept.by records thing.id (step_of lift r) valid (step_at map records thing.id lift r is_map valid has at) holds

pub valid_kept : (map : MapView) → IsMap map → IsKept map (IsValidWorld map)
valid_kept map is_map = record { by = λ records id step valid is holds. step_keeps_valid map records id step is_map holds is }

-- and after those of many
pub through : (map : MapView) (P : List (Option Rec) → Type 0) → IsMap map → IsKept map P → (things : List Rec) (records : List (Option Rec)) → IsValidWorld map records → P records
    → P (after_things map records things)
through map P is_map kept [] records valid holds = holds
through map P is_map kept (thing ∷ things) records valid holds =
    through map P is_map kept things (after_thing map records thing)
    (after_one map (IsValidWorld map) is_map (valid_kept map is_map) records thing valid valid) (after_one map P is_map kept records thing valid holds)

-- ---- facts about one record before and after

-- what a record has to do with what it becomes in each step, and so in many
pub record IsKeptByEach (map : MapView) (R : Rec → Rec → Type 0) : Type 0 where
  pub none : (r : Rec) → R r r
  pub both : (a b c : Rec) → R a b → R b c → R a c
  pub step : (records : List (Option Rec)) (id : ℕ) (step : LiftStep) → IsValidWorld map records → IsStepAt map records id step → is_stopped map step records ≡ false
      → (k : ℕ) (r : Rec) → record_at records k ≡ Some r → R r (moved_along step r)

-- what becomes of a record
pub record Becomes (R : Rec → Rec → Type 0) (old : Rec) (new : List (Option Rec)) (id : ℕ) : Type 0 where
  pub r : Rec
  pub at : record_at new id ≡ Some r
  pub is : R old r

after_this : (map : MapView) (R : Rec → Rec → Type 0) → IsKeptByEach map R → (records : List (Option Rec)) (id : ℕ) (step : LiftStep) → IsValidWorld map records
    → IsStepAt map records id step → (k : ℕ) (old : Rec) → record_at records k ≡ Some old → Becomes R old (after_step map step records) k
unfolding after_step
after_this map R kept records id step valid is k old at = by (is_stopped map step records) refl
  where
    by : (b : Bool) → is_stopped map step records ≡ b → Becomes R old (cond b records (each_changed (moved_along step) records)) k
    by true e = record { r = old; at = at; is = kept.none old }
    by false e = record {
      r = moved_along step old;
      at = at-changed (moved_along step) records k ∙ ap (option_map (moved_along step)) at;
      is = kept.step records id step valid is e k old at;
    }

after_each : (map : MapView) (R : Rec → Rec → Type 0) → IsMap map → IsKeptByEach map R → (records : List (Option Rec)) (thing : Rec) → IsValidWorld map records → (k : ℕ) (old : Rec)
    → record_at records k ≡ Some old → Becomes R old (after_thing map records thing) k
after_each map R is_map kept records thing valid k old at = by (lift_of map thing.id) (record_at records thing.id) refl refl
  where
    by : (l : Option Lift) (o : Option Rec) → lift_of map thing.id ≡ l → record_at records thing.id ≡ o → Becomes R old (after_lift map records l o) k
    by None o has here = record { r = old; at = at; is = kept.none old }
    by (Some lift) None has here = record { r = old; at = at; is = kept.none old }
    by (Some lift) (Some r) has here =
        after_this map R kept records thing.id (step_of lift r) valid (step_at map records thing.id lift r is_map valid has here) k old at

pub each_through : (map : MapView) (R : Rec → Rec → Type 0) → IsMap map → IsKeptByEach map R → (things : List Rec) (records : List (Option Rec)) → IsValidWorld map records
    → (k : ℕ) (old : Rec) → record_at records k ≡ Some old → Becomes R old (after_things map records things) k
each_through map R is_map kept [] records valid k old at = record { r = old; at = at; is = kept.none old }
each_through map R is_map kept (thing ∷ things) records valid k old at =
    let one = after_each map R is_map kept records thing valid k old at in
    let rest = each_through map R is_map kept things (after_thing map records thing)
    (after_one map (IsValidWorld map) is_map (valid_kept map is_map) records thing valid valid) k one.r one.at in
    record { r = rest.r; at = rest.at; is = kept.both old one.r rest.r one.is rest.is }
