-- What a tick keeps of each record.
use Rattle.std.proofs.Common.{◌≡◌, ℕ, ◌<◌, ◌≤◌, ◌==◌, Bool, true, false, cond, ◌||◌, not, ◌&&◌, nat_le, List, [], ◌∷◌, Option, Some, None, is_some, ℤ, refl, sym, ap, ◌∙◌, subst, arith}
use Rattle.std.specs.Option.{option_map}
use Rattle.std.proofs.lemmas.Bool.Decides.{nat_tests}
use Rattle.std.proofs.lemmas.Option.{same_Some}
use Rattle.entity_recs.specs.declared.kind.Kind.{Kind}
use Rattle.entity_recs.specs.declared.kind.Kind.TheVariants as kinds
use Rattle.entity_recs.specs.declared.rec.Rec.{Rec}
use Rattle.entity_recs.specs.Kinds.{is_solid, is_item}
use Rattle.entity_recs.specs.Records.{with_state}
use Rattle.arena_map.specs.declared.lift.Lift.{Lift}
use Rattle.arena_map.specs.MapLines.{is_lift}
use Rattle.arena_map.specs.Maps.{MapView, IsMap, entities_of, lift_of}
use Rattle.arena_map.specs.Validity.{IsValidWorld}
use Rattle.world_tree.specs.Live.{record_at}
use Rattle.world_physics.specs.declared.lift_step.LiftStep.{LiftStep}
use Rattle.world_physics.specs.Returns.{each_changed, is_due, record_after_returns, after_returns}
use Rattle.world_physics.specs.LiftSteps.{record_raised_by, step_of, is_stopped, moved_along, after_step}
use Rattle.world_physics.specs.Ticks.{after_lift, after_thing, after_things, after_tick}
use Rattle.world_physics.specs.Laws.{ValidWorldsStayValid, HaveSameIds, IdsStay, LiftsStayOnTheirWay, at_z, has_state, ChangesOnly, OnlyOriginsAndStatesChange, IsItemAfter, ItemsReturnAtTheirFrame}
use Rattle.world_physics.proofs.Changes.{at-changed, length-changed}
use Rattle.world_physics.proofs.LiftRecords.{IsStepAt}
use Rattle.world_physics.proofs.Valid.{returns_keep_valid, either_returned, either_moved, due_is_item, carried_is_player}
use Rattle.world_physics.proofs.Stepping.{way_at}
use Rattle.world_physics.proofs.Through.{valid_kept, through, IsKeptByEach, each_through}

-- ---- valid worlds

pub worlds_stay_valid : ValidWorldsStayValid
unfolding after_tick
worlds_stay_valid map frame records is_map valid =
    let start = returns_keep_valid map frame records valid in
    through map (IsValidWorld map) is_map (valid_kept map is_map) (entities_of map) (after_returns frame records) start start

pub lifts_stay_on_their_way : LiftsStayOnTheirWay
lifts_stay_on_their_way map frame records id lift r is_map valid has at =
    way_at map (after_tick map frame records) id lift r is_map (worlds_stay_valid map frame records is_map valid) has at

-- ---- ids

same_ids_twice : (a b c : List (Option Rec)) → HaveSameIds a b → HaveSameIds b c → HaveSameIds a c
same_ids_twice a b c one two = record { count = two.count ∙ one.count; live = λ id. two.live id ∙ one.live id }

pub same_ids_changed : (f : Rec → Rec) (records : List (Option Rec)) → HaveSameIds records (each_changed f records)
same_ids_changed f records = record {
  count = length-changed f records;
  live = λ id. ap is_some (at-changed f records id) ∙ by (record_at records id);
}
  where
    by : (o : Option Rec) → is_some (option_map f o) ≡ is_some o
    by None = refl
    by (Some r) = refl

same_ids_none : (records : List (Option Rec)) → HaveSameIds records records
same_ids_none records = record { count = refl; live = λ id. refl }

same_ids_step : (map : MapView) (step : LiftStep) (records : List (Option Rec)) → HaveSameIds records (after_step map step records)
unfolding after_step
same_ids_step map step records = by (is_stopped map step records)
  where
    by : (b : Bool) → HaveSameIds records (cond b records (each_changed (moved_along step) records))
    by true = same_ids_none records
    by false = same_ids_changed (moved_along step) records

pub same_ids_lift : (map : MapView) (records : List (Option Rec)) (l : Option Lift) (o : Option Rec) → HaveSameIds records (after_lift map records l o)
same_ids_lift map records None o = same_ids_none records
same_ids_lift map records (Some lift) None = same_ids_none records
same_ids_lift map records (Some lift) (Some r) = same_ids_step map (step_of lift r) records

same_ids_things : (map : MapView) (things : List Rec) (records : List (Option Rec)) → HaveSameIds records (after_things map records things)
same_ids_things map [] records = same_ids_none records
same_ids_things map (thing ∷ things) records =
    same_ids_twice records (after_thing map records thing) (after_things map (after_thing map records thing) things)
    (same_ids_lift map records (lift_of map thing.id) (record_at records thing.id)) (same_ids_things map things (after_thing map records thing))

pub ids_stay : IdsStay
unfolding after_tick
ids_stay map frame records =
    same_ids_twice records (after_returns frame records) (after_things map (after_returns frame records) (entities_of map)) (same_ids_changed (record_after_returns frame) records)
    (same_ids_things map (entities_of map) (after_returns frame records))

-- ---- what changes

false-true : (b : Bool) → b ≡ true → b ≡ false → ⊥
false-true true h e = cc
false-true false h e = cc

item_has_state : (kind : Kind) → is_item kind ≡ true → has_state kind ≡ true
item_has_state kind h = ap (λ b. b || is_lift kind) h

only_none : (r : Rec) → ChangesOnly r r
only_none r = record { rest = refl; z = λ h. refl; state = λ h. refl }

rest_twice : (a b c : Rec) → b ≡ with_state (at_z a b.origin.z) b.state → c ≡ with_state (at_z b c.origin.z) c.state → c ≡ with_state (at_z a c.origin.z) c.state
rest_twice a b c one two = two ∙ ap (λ (r : Rec). with_state (at_z r c.origin.z) c.state) one

only_twice : (a b c : Rec) → ChangesOnly a b → ChangesOnly b c → ChangesOnly a c
only_twice a b c one two =
    let kind : b.kind ≡ a.kind = ap (λ (r : Rec). r.kind) one.rest in
    record {
      rest = rest_twice a b c one.rest two.rest;
      z = λ h. two.z (ap is_solid kind ∙ h) ∙ one.z h;
      state = λ h. two.state (ap has_state kind ∙ h) ∙ one.state h;
    }

only_returned : (frame : ℕ) (r : Rec) → ChangesOnly r (record_after_returns frame r)
only_returned frame r = either_returned (ChangesOnly r) frame r (only_none r) (λ due. record {
  rest = refl;
  z = λ h. refl;
  state = λ h. absurd (false-true (has_state r.kind) (item_has_state r.kind (due_is_item frame r due)) h);
})

lift_is_solid : (kind : Kind) → kind ≡ kinds.Lift → is_solid kind ≡ true
lift_is_solid kind is = ap is_solid is

lift_has_state : (kind : Kind) → kind ≡ kinds.Lift → has_state kind ≡ true
lift_has_state kind is = ap has_state is

only_lift : (before after : Rec) (up : ℤ) → before.kind ≡ kinds.Lift → after ≡ with_state (record_raised_by before up) after.state → ChangesOnly before after
only_lift before after up kind is = record {
  rest = is ∙ ap (λ z. with_state (at_z before z) after.state) (sym (ap (λ (r : Rec). r.origin.z) is));
  z = λ h. absurd (false-true (is_solid before.kind) (lift_is_solid before.kind kind) h);
  state = λ h. absurd (false-true (has_state before.kind) (lift_has_state before.kind kind) h);
}

only_carried : (r : Rec) (up : ℤ) → r.kind ≡ kinds.Player → ChangesOnly r (record_raised_by r up)
only_carried r up kind = record {
  rest = refl;
  z = λ h. absurd (false-true (is_solid r.kind) (ap is_solid kind) h);
  state = λ h. refl;
}

-- the live record at the lift's id is the lift's
lift_record : (map : MapView) (records : List (Option Rec)) (id : ℕ) (step : LiftStep) → IsStepAt map records id step → (k : ℕ) (r : Rec) → record_at records k ≡ Some r → k ≡ id
    → step.before ≡ r
lift_record map records id step is k r at here = same_Some step.before r (sym is.at ∙ sym (ap (record_at records) here) ∙ at)

only_kept : (map : MapView) → IsMap map → IsKeptByEach map ChangesOnly
only_kept map is_map = record {
  none = only_none;
  both = only_twice;
  step = λ records id step valid is free k r at.
      either_moved map records id step is_map valid is free (λ j s. ChangesOnly r s) k r at (only_none r)
      (λ here. subst (λ (s : Rec). ChangesOnly s step.after) (lift_record map records id step is k r at here) (only_lift step.before step.after step.up is.before.kind is.only))
      (λ carried. only_carried r step.up (carried_is_player step r carried));
}

-- what becomes of a record in a tick
pub in_tick : (map : MapView) (R : Rec → Rec → Type 0) (frame : ℕ) (records : List (Option Rec)) → IsMap map → IsValidWorld map records → IsKeptByEach map R → (id : ℕ) (old new : Rec)
    → record_at records id ≡ Some old → record_at (after_tick map frame records) id ≡ Some new → R (record_after_returns frame old) new
unfolding after_tick
in_tick map R frame records is_map valid kept id old new at_old at_new =
    let start = returns_keep_valid map frame records valid in
    let b = each_through map R is_map kept (entities_of map) (after_returns frame records) start id (record_after_returns frame old)
    (at-changed (record_after_returns frame) records id ∙ ap (option_map (record_after_returns frame)) at_old) in
    subst (R (record_after_returns frame old)) (same_Some b.r new (sym b.at ∙ at_new)) b.is

pub only_origins_and_states_change : OnlyOriginsAndStatesChange
only_origins_and_states_change map frame records id old new is_map valid at_old at_new =
    only_twice old (record_after_returns frame old) new (only_returned frame old) (in_tick map ChangesOnly frame records is_map valid (only_kept map is_map) id old new at_old at_new)

-- ---- items

-- what is no solid stays as it is
pub record StaysUnlessSolid (old new : Rec) : Type 0 where
  pub same : is_solid old.kind ≡ false → new ≡ old

stays_twice : (a b c : Rec) → StaysUnlessSolid a b → StaysUnlessSolid b c → StaysUnlessSolid a c
stays_twice a b c one two = record {
  same = λ h.
      let first = one.same h in
      two.same (ap (λ (r : Rec). is_solid r.kind) first ∙ h) ∙ first;
}

pub stays_kept : (map : MapView) → IsMap map → IsKeptByEach map StaysUnlessSolid
stays_kept map is_map = record {
  none = λ r. record { same = λ h. refl };
  both = stays_twice;
  step = λ records id step valid is free k r at.
      either_moved map records id step is_map valid is free (λ j s. StaysUnlessSolid r s) k r at (record { same = λ h. refl })
      (λ here. subst (λ (s : Rec). StaysUnlessSolid s step.after) (lift_record map records id step is k r at here)
      (record { same = λ h. absurd (false-true (is_solid step.before.kind) (lift_is_solid step.before.kind is.before.kind) h) }))
      (λ carried. record { same = λ h. absurd (false-true (is_solid r.kind) (ap is_solid (carried_is_player step r carried)) h) });
}

pub item_is_no_solid : (kind : Kind) → is_item kind ≡ true → is_solid kind ≡ false
item_is_no_solid kinds.Ammo h = refl
item_is_no_solid kinds.Gem h = refl
item_is_no_solid kinds.Teleporter h = refl
item_is_no_solid kinds.Goal h = refl
item_is_no_solid kinds.Player h = cc
item_is_no_solid kinds.Lift h = cc

-- an item after the returns
item_returned : (frame : ℕ) (r : Rec) → is_item r.kind ≡ true → IsItemAfter frame r (record_after_returns frame r)
item_returned frame r item = record { there = there; away = away }
  where
    due : (zero_state past : Bool) → (r.state == 0) ≡ zero_state → nat_le r.state frame ≡ past → is_due frame r ≡ (not zero_state && past)
    due a b e f = ap (λ t. t && not (r.state == 0) && nat_le r.state frame) item ∙ ap (λ t. not t && nat_le r.state frame) e ∙ ap (λ t. not a && t) f

    there : r.state ≤ frame → record_after_returns frame r ≡ with_state r 0
    there h = by (r.state == 0) refl
      where
        past : nat_le r.state frame ≡ true
        past = grind (arith, nat_tests)

        by : (a : Bool) → (r.state == 0) ≡ a → record_after_returns frame r ≡ with_state r 0
        by true e =
            let zero_there : r.state ≡ 0 = grind (arith, nat_tests) in
            ap (λ b. cond b (with_state r 0) r) (due true true e past) ∙ ap (with_state r) zero_there
        by false e = ap (λ b. cond b (with_state r 0) r) (due false true e past)

    away : frame < r.state → record_after_returns frame r ≡ r
    away h =
        let some : (r.state == 0) ≡ false = grind (arith, nat_tests) in
        let later : nat_le r.state frame ≡ false = grind (arith, nat_tests) in
        ap (λ b. cond b (with_state r 0) r) (due false false some later)

pub kind_returned : (frame : ℕ) (r : Rec) → (record_after_returns frame r).kind ≡ r.kind
kind_returned frame r = either_returned (λ (s : Rec). s.kind ≡ r.kind) frame r refl (λ due. refl)

pub items_return_at_their_frame : ItemsReturnAtTheirFrame
items_return_at_their_frame map frame records id old new is_map valid at_old item at_new =
    let stays = in_tick map StaysUnlessSolid frame records is_map valid (stays_kept map is_map) id old new at_old at_new in
    let same : new ≡ record_after_returns frame old = stays.same (ap is_solid (kind_returned frame old) ∙ item_is_no_solid old.kind item) in
    subst (IsItemAfter frame old) (sym same) (item_returned frame old item)
