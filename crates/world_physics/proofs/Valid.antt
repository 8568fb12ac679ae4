-- A valid world stays valid where its records change one by one, and after the step of a lift.
use Rattle.std.proofs.Common.{◌≡◌, ℕ, ◌≤◌, ◌==◌, Bool, true, false, cond, ◌&&◌, ◌||◌, List, Option, Some, None, refl, sym, ap, ◌∙◌, subst, arith}
use Rattle.std.specs.List.{find}
use Rattle.std.specs.Option.{option_map}
use Rattle.std.proofs.lemmas.Bool.Decides.{nat_tests}
use Rattle.std.proofs.lemmas.Option.{same_Some}
use Rattle.std.proofs.lemmas.Bool.{and_parts, or_parts}
use Rattle.arena_geo.specs.Boxes.{overlaps, box_moved_by, is_blocked}
use Rattle.entity_recs.specs.declared.kind.Kind.{Kind}
use Rattle.entity_recs.specs.declared.kind.Kind.TheVariants as kinds
use Rattle.entity_recs.specs.declared.rec.Rec.{Rec}
use Rattle.entity_recs.specs.Records.{IsIdOf, with_state}
use Rattle.entity_recs.specs.Bodies.{body_of}
use Rattle.entity_recs.specs.Kinds.{is_item, is_player}
use Rattle.arena_map.specs.declared.lift.Lift.{Lift}
use Rattle.arena_map.specs.Positions.{upwards}
use Rattle.arena_map.specs.Maps.{MapView, IsMap, entities_of, lift_of, solids_of}
use Rattle.arena_map.specs.Validity.{IsSameLift, IsAsItsLine, IsThing, IsStateOn, IsValidRecord, IsValidWorld}
use Rattle.world_tree.specs.Live.{record_at}
use Rattle.world_physics.specs.declared.lift_step.LiftStep.{LiftStep}
use Rattle.world_physics.specs.Returns.{each_changed, is_due, record_after_returns, after_returns}
use Rattle.world_physics.specs.LiftSteps.{is_carried, stands_on, is_obstructed, is_pressed, is_stopped, record_raised_by, moved_along, after_step, HasRoom}
use Rattle.world_physics.proofs.Changes.{at-changed, was_before}
use Rattle.world_physics.proofs.Finding.{not_found}
use Rattle.world_physics.proofs.Raised.{raised_is_valid}
use Rattle.world_physics.proofs.LiftRecords.{IsStepAt}

-- ---- one by one

-- the changed records are valid, each at its id, and as their lines say
pub record KeepsValid (map : MapView) (change : Rec → Rec) (records : List (Option Rec)) : Type 0 where
  pub each : (id : ℕ) (r : Rec) → record_at records id ≡ Some r → IsValidRecord map id (change r)
  pub things : (id : ℕ) (thing r : Rec) → 64 ≤ id → find (λ t. t.id == id) (entities_of map) ≡ Some thing → record_at records id ≡ Some r
      → IsAsItsLine (lift_of map thing.id) thing r → IsAsItsLine (lift_of map thing.id) thing (change r)

pub valid-changed : (map : MapView) (change : Rec → Rec) (records : List (Option Rec)) → IsValidWorld map records → KeepsValid map change records
    → IsValidWorld map (each_changed change records)
valid-changed map change records valid keeps = record {
  each = λ id r at. let w = was_before change records id r at in subst (IsValidRecord map id) (sym w.is) (keeps.each id w.was w.at);
  things = λ id low.
      let P : Option Rec → Type 0 = IsThing map (find (λ t. t.id == id) (entities_of map)) in
      subst P (sym (at-changed change records id)) (by id low (find (λ t. t.id == id) (entities_of map)) (record_at records id) refl refl (valid.things id low));
}
  where
    by : (id : ℕ) → 64 ≤ id → (t o : Option Rec) → find (λ t. t.id == id) (entities_of map) ≡ t → record_at records id ≡ o → IsThing map t o → IsThing map t (option_map change o)
    by id low None None e at is = is
    by id low None (Some r) e at is = is
    by id low (Some thing) None e at is = is
    by id low (Some thing) (Some r) e at is = keeps.things id thing r low e at is

-- ---- items that return

-- a record whose state may change is as its line says in any state
pub any_state : (lift : Option Lift) (thing r : Rec) (state : ℕ) → IsAsItsLine lift thing r → IsAsItsLine lift thing (with_state r state)
any_state None thing r state is = record { kind = is.kind; origin = is.origin; mins = is.mins; maxs = is.maxs }
any_state (Some lift) thing r state is = record { kind = is.kind; x = is.x; y = is.y; low = is.low; high = is.high; mins = is.mins; maxs = is.maxs }

pub item_state : (map : MapView) (kind : Kind) (state : ℕ) → is_item kind ≡ true → IsStateOn map kind state
item_state map kinds.Ammo state is = tt
item_state map kinds.Gem state is = tt
item_state map kinds.Player state is = cc
item_state map kinds.Teleporter state is = cc
item_state map kinds.Goal state is = cc
item_state map kinds.Lift state is = cc

three_first : (a b c : Bool) → (a && b && c) ≡ true → a ≡ true
three_first true b c h = refl
three_first false b c h = cc

-- what is due is an item
pub due_is_item : (frame : ℕ) (r : Rec) → is_due frame r ≡ true → is_item r.kind ≡ true
due_is_item frame r due = three_first (is_item r.kind) _ _ due

pub valid_in_state : (map : MapView) (id : ℕ) (r : Rec) (state : ℕ) → IsValidRecord map id r → IsStateOn map r.kind state → IsValidRecord map id (with_state r state)
valid_in_state map id r state valid is =
    let rec = valid.is_record in
    record {
      is_record = record { id = rec.id; origin = rec.origin; shape = rec.shape; vel = rec.vel; flags = rec.flags; ammo = rec.ammo; carry = rec.carry };
      own_id = valid.own_id;
      state = is;
      inside = valid.inside;
    }

-- what holds of a record and of the item that is there again holds after the returns
pub either_returned : (P : Rec → Type 0) (frame : ℕ) (r : Rec) → P r → (is_due frame r ≡ true → P (with_state r 0)) → P (record_after_returns frame r)
either_returned P frame r stays back = by (is_due frame r) refl
  where
    by : (b : Bool) → is_due frame r ≡ b → P (cond b (with_state r 0) r)
    by true due = back due
    by false due = stays

pub returns_keep_valid : (map : MapView) (frame : ℕ) (records : List (Option Rec)) → IsValidWorld map records → IsValidWorld map (after_returns frame records)
returns_keep_valid map frame records valid =
    valid-changed map (record_after_returns frame) records valid (record {
      each = λ id r at.
          let here = valid.each id r at in
          either_returned (IsValidRecord map id) frame r here (λ due. valid_in_state map id r 0 here (item_state map r.kind 0 (due_is_item frame r due)));
      things = λ id thing r low e at is. either_returned (IsAsItsLine (lift_of map thing.id) thing) frame r is (λ due. any_state (lift_of map thing.id) thing r 0 is);
    })

-- ---- the step of a lift

player_kind : (kind : Kind) → is_player kind ≡ true → kind ≡ kinds.Player
player_kind kinds.Player h = refl
player_kind kinds.Ammo h = cc
player_kind kinds.Gem h = cc
player_kind kinds.Teleporter h = cc
player_kind kinds.Goal h = cc
player_kind kinds.Lift h = cc

-- who is carried is a player
pub carried_is_player : (step : LiftStep) (r : Rec) → is_carried step r ≡ true → r.kind ≡ kinds.Player
carried_is_player step r carried = player_kind r.kind (and_parts (is_player r.kind) (stands_on step.before r || overlaps (body_of r) (body_of step.after)) carried).0

not_both : (a b : Bool) → (a && b) ≡ false → a ≡ true → b ≡ false
not_both true b h a = h
not_both false b h a = cc

-- where the step isn't stopped, the body of who is carried isn't obstructed where it gets to
pub has_way : (map : MapView) (step : LiftStep) (records : List (Option Rec)) (id : ℕ) (r : Rec) → is_stopped map step records ≡ false → record_at records id ≡ Some r
    → is_carried step r ≡ true → is_obstructed map step records (box_moved_by (body_of r) (upwards step.up)) ≡ false
unfolding is_stopped
has_way map step records id r free at carried = not_both _ _ (not_found (is_pressed map step records) records id r free at) carried

-- so no wall and no block stops it
pub clear_way : (map : MapView) (step : LiftStep) (records : List (Option Rec)) (body : _) → is_obstructed map step records body ≡ false → is_blocked body (solids_of map) ≡ false
clear_way map step records body free = (or_parts _ _ (or_parts _ _ free).0).0

kind_of_thing : (kind : Kind) (id : ℕ) → IsIdOf kind id → 64 ≤ id → kind ≡ kinds.Player → ⊥
kind_of_thing kind id own past is = let P : Kind → Type 0 = λ k. IsIdOf k id in let below = subst P is own in omega (arith, below, past)

module _ (map : MapView) (records : List (Option Rec)) (id : ℕ) (step : LiftStep) (is_map : IsMap map) (valid : IsValidWorld map records) (is : IsStepAt map records id step)
    (free : is_stopped map step records ≡ false) where
  -- who is carried is as valid where it gets to
  pub carried_valid : (k : ℕ) (r : Rec) → record_at records k ≡ Some r → is_carried step r ≡ true → IsValidRecord map k (record_raised_by r step.up)
  carried_valid k r at carried =
      raised_is_valid map k r step.up is_map (valid.each k r at) (carried_is_player step r carried) is.far
      (clear_way map step records (box_moved_by (body_of r) (upwards step.up)) (has_way map step records k r free at carried))

  pub has_room : (slot : ℕ) → HasRoom step records slot
  has_room slot = record { moved_is_record = λ r at carried. (carried_valid slot r at carried).is_record }

  -- the record with the lift's id is the lift's
  pub at_lift : (k : ℕ) (r : Rec) → record_at records k ≡ Some r → (r.id == step.before.id) ≡ true → k ≡ id
  at_lift k r at same =
      let own = (valid.each k r at).own_id in
      let lift = is.valid.own_id in
      let e : r.id ≡ step.before.id = grind (arith, nat_tests) in
      sym own ∙ e ∙ lift

  -- what holds of each record, of the lift after its step, and of who is carried where it gets to, holds after the step
  pub either_moved : (P : ℕ → Rec → Type 0) (k : ℕ) (r : Rec) → record_at records k ≡ Some r → P k r → (k ≡ id → P k step.after)
      → (is_carried step r ≡ true → P k (record_raised_by r step.up)) → P k (moved_along step r)
  either_moved P k r at stays lift carried = by (r.id == step.before.id) (is_carried step r) refl refl
    where
      by : (b c : Bool) → (r.id == step.before.id) ≡ b → is_carried step r ≡ c → P k (cond b step.after (cond c (record_raised_by r step.up) r))
      by true c e f = lift (at_lift k r at e)
      by false true e f = carried f
      by false false e f = stays

  lift_as_its_line : (k : ℕ) (thing : Rec) → k ≡ id → find (λ t. t.id == k) (entities_of map) ≡ Some thing → IsAsItsLine (lift_of map thing.id) thing step.after
  lift_as_its_line k thing here e =
      let found : Some is.after.thing ≡ Some thing = sym is.after.found ∙ ap (λ j. find (λ t. t.id == j) (entities_of map)) (sym here) ∙ e in
      let same : is.after.thing ≡ thing = same_Some is.after.thing thing found in
      let its : lift_of map thing.id ≡ Some is.lift = ap (λ (t : Rec). lift_of map t.id) (sym same) ∙ ap (lift_of map) is.after.own ∙ is.has in
      let P : Option Lift → Type 0 = λ l. IsAsItsLine l thing step.after in
      let Q : Rec → Type 0 = λ t. IsSameLift is.lift t step.after in
      subst P (sym its) (subst Q same is.after.same)

  pub step_keeps : KeepsValid map (moved_along step) records
  step_keeps = record {
    each = λ k r at.
        either_moved (IsValidRecord map) k r at (valid.each k r at) (λ here. subst (λ j. IsValidRecord map j step.after) (sym here) is.valid_after) (carried_valid k r at);
    things = λ k thing r low e at same.
        either_moved (λ j s. IsAsItsLine (lift_of map thing.id) thing s) k r at same (λ here. lift_as_its_line k thing here e) (λ carried.
        let here = valid.each k r at in
        absurd (kind_of_thing r.kind r.id here.is_record.id (let own = here.own_id in omega (arith, own, low)) (carried_is_player step r carried)));
  }

-- a valid world stays valid after the step of a lift
pub step_keeps_valid : (map : MapView) (records : List (Option Rec)) (id : ℕ) (step : LiftStep) → IsMap map → IsValidWorld map records → IsStepAt map records id step
    → IsValidWorld map (after_step map step records)
unfolding after_step
step_keeps_valid map records id step is_map valid is = by (is_stopped map step records) refl
  where
    by : (b : Bool) → is_stopped map step records ≡ b → IsValidWorld map (cond b records (each_changed (moved_along step) records))
    by true e = valid
    by false e = valid-changed map (moved_along step) records valid (step_keeps map records id step is_map valid is e)
