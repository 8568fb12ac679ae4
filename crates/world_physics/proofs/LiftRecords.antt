-- The record of a lift of the map in a valid world, before its step and after it.
use Rattle.std.proofs.Common.{◌≡◌, ℕ, ◌≤◌, ◌==◌, Bool, true, false, cond, ℤ, pos, ◌+ℤ◌, ◌-ℤ◌, ◌≤ℤ◌, unsigned_abs, List, Option, Some, None, is_some, IfSome, refl, sym, ap, ◌∙◌, subst, arith, int_eq}
use Rattle.std.specs.List.{find}
use Rattle.std.proofs.lemmas.Int.{ints}
use Rattle.std.proofs.lemmas.Option.{none-some, same_Some}
use Rattle.entity_recs.specs.declared.kind.Kind.{Kind}
use Rattle.entity_recs.specs.declared.kind.Kind.TheVariants as kinds
use Rattle.entity_recs.specs.declared.rec.Rec.{Rec}
use Rattle.entity_recs.specs.Records.{with_state}
use Rattle.arena_map.specs.declared.lift.Lift.{Lift}
use Rattle.arena_map.specs.MapLines.{is_lift}
use Rattle.arena_map.specs.Maps.{MapView, IsMap, IsLift, entities_of, lift_of}
use Rattle.arena_map.specs.Validity.{IsSameLift, IsAsItsLine, IsThing, IsStateOn, IsValidRecord, IsValidWorld}
use Rattle.arena_map.specs.Laws.{HasData}
use Rattle.arena_map.proofs.Opening.{found-in, lift-of-line}
use Rattle.arena_map.proofs.ThingRecords.{own-id}
use Rattle.arena_map.proofs.ThingData.{data_follow_kinds}
use Rattle.arena_map.proofs.Lifts.{lift-is_lift, lifts_stay_inside}
use Rattle.world_tree.specs.Live.{record_at}
use Rattle.world_physics.specs.declared.lift_step.LiftStep.{LiftStep}
use Rattle.world_physics.specs.LiftSteps.{next_height, next_state, lift_after, record_raised_by, step_of, IsOnItsWay, IsStep}
use Rattle.world_physics.proofs.Ways.{next_is}

-- the record is that of a lift of the map
pub record IsLiftAt (map : MapView) (id : ℕ) (lift : Lift) (r : Rec) : Type 0 where
  pub low : 64 ≤ id
  pub numbers : IsLift lift
  pub thing : Rec
  pub found : find (λ t. t.id == id) (entities_of map) ≡ Some thing
  pub own : thing.id ≡ id
  pub kind : r.kind ≡ kinds.Lift
  pub same : IsSameLift lift thing r

-- a live record that is
pub record HasLift (map : MapView) (records : List (Option Rec)) (id : ℕ) (lift : Lift) : Type 0 where
  pub r : Rec
  pub at : record_at records id ≡ Some r
  pub is : IsLiftAt map id lift r

lift_kind : (kind : Kind) → is_lift kind ≡ true → kind ≡ kinds.Lift
lift_kind kinds.Lift h = refl
lift_kind kinds.Player h = cc
lift_kind kinds.Ammo h = cc
lift_kind kinds.Gem h = cc
lift_kind kinds.Teleporter h = cc
lift_kind kinds.Goal h = cc

numbers_of : (has_data found : Option Lift) (lift : Lift) → found ≡ has_data → found ≡ Some lift → IfSome has_data IsLift → IsLift lift
numbers_of None found lift is has numbers = absurd (none-some lift (sym is ∙ has))
numbers_of (Some d) found lift is has numbers = subst IsLift (same_Some d lift (sym is ∙ has)) numbers

-- a lift of the map is live in a valid world
pub has_lift : (map : MapView) (records : List (Option Rec)) (id : ℕ) (lift : Lift) → IsMap map → IsValidWorld map records → lift_of map id ≡ Some lift → HasLift map records id lift
has_lift map records id lift is_map valid has = by (find (λ t. t.id == id) (entities_of map)) refl (data_follow_kinds map id is_map)
  where
    live : (thing : Rec) → find (λ t. t.id == id) (entities_of map) ≡ Some thing → 64 ≤ id → thing.id ≡ id → thing.kind ≡ kinds.Lift → IsLift lift
        → (o : Option Rec) → record_at records id ≡ o → IsThing map (Some thing) o → HasLift map records id lift
    live thing e low own kind numbers None at is = absurd is
    live thing e low own kind numbers (Some r) at is =
        let P : Option Lift → Type 0 = λ l. IsAsItsLine l thing r in
        let same : IsSameLift lift thing r = subst P (ap (lift_of map) own ∙ has) is in
        record { r = r; at = at; is = record { low = low; numbers = numbers; thing = thing; found = e; own = own; kind = same.kind ∙ kind; same = same } }

    by : (t : Option Rec) → find (λ t. t.id == id) (entities_of map) ≡ t → HasData map id t → HasLift map records id lift
    by None e its = absurd (none-some lift (sym its.2 ∙ has))
    by (Some thing) e its =
        let found = found-in map id thing is_map e in
        let own : thing.id ≡ id = ap (λ (t : Rec). t.id) found.is ∙ own-id id found.line found.inside.thing in
        let kind = lift_kind thing.kind (sym its.2 ∙ ap is_some has) in
        let numbers = numbers_of _ (lift_of map id) lift (lift-of-line map id found.line found.low found.at) has (lift-is_lift map found.line is_map found.inside) in
        let P : Option Rec → Type 0 = λ t. IsThing map t (record_at records id) in
        live thing e found.low own kind numbers (record_at records id) refl (subst P e (valid.things id found.low))

-- it is on its way
pub on_its_way : (map : MapView) (id : ℕ) (lift : Lift) (r : Rec) → IsLiftAt map id lift r → IsOnItsWay lift r
on_its_way map id lift r is = record { numbers = is.numbers; low = is.same.low; high = is.same.high }

-- ---- after its step

low_after : (low at next : ℤ) → pos 0 ≤ℤ next → low ≤ℤ (at +ℤ (next -ℤ (at -ℤ low)))
low_after low at next least = omega (arith, ints)

high_after : (low at next rise : ℤ) → next ≤ℤ rise → (at +ℤ (next -ℤ (at -ℤ low))) ≤ℤ (low +ℤ rise)
high_after low at next rise most = omega (arith, ints)

pub lift_after_is : (map : MapView) (id : ℕ) (lift : Lift) (r : Rec) → IsLiftAt map id lift r → IsLiftAt map id lift (lift_after lift r)
lift_after_is map id lift r is =
    let next = (next_is lift r (on_its_way map id lift r is)).is in
    let same = is.same in
    record {
      low = is.low;
      numbers = is.numbers;
      thing = is.thing;
      found = is.found;
      own = is.own;
      kind = is.kind;
      same = record {
        kind = same.kind;
        x = same.x;
        y = same.y;
        low = low_after lift.low r.origin.z (next_height lift r) next.least;
        high = high_after lift.low r.origin.z (next_height lift r) lift.rise next.most;
        mins = same.mins;
        maxs = same.maxs;
      };
    }

state_below : (a b : Bool) (state : ℕ) → state ≤ 1 → cond a 1 (cond b 0 state) ≤ 1
state_below true b state is = omega arith
state_below false true state is = omega arith
state_below false false state is = is

lift_state : (map : MapView) (kind : Kind) (state : ℕ) → kind ≡ kinds.Lift → IsStateOn map kind state → state ≤ 1
lift_state map kind state is has = let P : Kind → Type 0 = λ k. IsStateOn map k state in subst P is has

is_lift_state : (map : MapView) (kind : Kind) (state : ℕ) → kind ≡ kinds.Lift → state ≤ 1 → IsStateOn map kind state
is_lift_state map kind state is has = let P : Kind → Type 0 = λ k. IsStateOn map k state in subst P (sym is) has

no-player : (kind : Kind) → kind ≡ kinds.Lift → kind ≡ kinds.Player → ⊥
no-player kind is player = let both : kinds.Lift ≡ kinds.Player = sym is ∙ player in cc

-- its record after the step is valid
pub lift_after_is_valid : (map : MapView) (id : ℕ) (lift : Lift) (r : Rec) → IsMap map → lift_of map id ≡ Some lift → IsLiftAt map id lift r → IsValidRecord map id r
    → IsValidRecord map id (lift_after lift r)
lift_after_is_valid map id lift r is_map has is valid =
    let after = lift_after_is map id lift r is in
    let inside = lifts_stay_inside map id lift after.thing (lift_after lift r) is_map has after.found after.same in
    let rec = valid.is_record in
    record {
      is_record = record { id = rec.id; origin = inside.origin; shape = inside.shape; vel = rec.vel; flags = rec.flags; ammo = rec.ammo; carry = rec.carry };
      own_id = valid.own_id;
      state = is_lift_state map r.kind (next_state lift r) is.kind
          (state_below (int_eq (next_height lift r) lift.rise) (int_eq (next_height lift r) (pos 0)) r.state (lift_state map r.kind r.state is.kind valid.state));
      inside = λ player. absurd (no-player r.kind is.kind player);
    }

-- ---- the step

-- what a step is that of the lift with this id
pub record IsStepAt (map : MapView) (records : List (Option Rec)) (id : ℕ) (step : LiftStep) : Type 0 where
  pub lift : Lift
  pub has : lift_of map id ≡ Some lift
  pub at : record_at records id ≡ Some step.before
  pub before : IsLiftAt map id lift step.before
  pub after : IsLiftAt map id lift step.after
  pub valid : IsValidRecord map id step.before
  pub valid_after : IsValidRecord map id step.after
  pub far : unsigned_abs step.up ≤ 2560
  pub only : step.after ≡ with_state (record_raised_by step.before step.up) step.after.state

pub step_at : (map : MapView) (records : List (Option Rec)) (id : ℕ) (lift : Lift) (r : Rec) → IsMap map → IsValidWorld map records → lift_of map id ≡ Some lift
    → record_at records id ≡ Some r → IsStepAt map records id (step_of lift r)
unfolding step_of
step_at map records id lift r is_map valid has at =
    let found = has_lift map records id lift is_map valid has in
    let P : Rec → Type 0 = IsLiftAt map id lift in
    let before = subst P (same_Some found.r r (sym found.at ∙ at)) found.is in
    let here = valid.each id r at in
    record {
      lift = lift;
      has = has;
      at = at;
      before = before;
      after = lift_after_is map id lift r before;
      valid = here;
      valid_after = lift_after_is_valid map id lift r is_map has before here;
      far = (next_is lift r (on_its_way map id lift r before)).far;
      only = refl;
    }

-- so it is with what the code makes
pub is_step_at : (map : MapView) (records : List (Option Rec)) (id : ℕ) (lift : Lift) (r : Rec) (step : LiftStep) → IsMap map → IsValidWorld map records → lift_of map id ≡ Some lift
    → record_at records id ≡ Some r → step ≡ step_of lift r → IsStepAt map records id step
is_step_at map records id lift r step is_map valid has at is = subst (IsStepAt map records id) (sym is) (step_at map records id lift r is_map valid has at)

-- its records are within their bounds
pub is_step : (map : MapView) (records : List (Option Rec)) (id : ℕ) (step : LiftStep) → IsStepAt map records id step → IsStep step
is_step map records id step is = record { before = is.valid.is_record; after = is.valid_after.is_record; far = is.far }
