-- What becomes of a lift's record in a tick.
use Rattle.std.proofs.Common.{◌≡◌, ◌≢◌, ℕ, ◌+◌, ◌-◌, ◌<◌, ◌≤◌, ◌==◌, Bool, true, false, cond, ◌&&◌, List, [], ◌∷◌, length, Option, Some, None, is_some, refl, sym, ap, ◌∙◌, subst, inl, inr, arith}
use Rattle.std.specs.List.{AllByRecursion}
use Rattle.std.specs.Option.{option_map}
use Rattle.std.proofs.lemmas.Bool.{cases_eq, cases_lt}
use Rattle.std.proofs.lemmas.Bool.Decides.{nat_tests}
use Rattle.std.proofs.lemmas.Option.{none-some, same_Some, slice_get_within}
use Rattle.arena_geo.specs.Boxes.{box_moved_by}
use Rattle.entity_recs.specs.declared.kind.Kind.{Kind}
use Rattle.entity_recs.specs.declared.kind.Kind.TheVariants as kinds
use Rattle.entity_recs.specs.declared.rec.Rec.{Rec}
use Rattle.entity_recs.specs.Bodies.{body_of}
use Rattle.entity_recs.specs.Kinds.{is_item}
use Rattle.entity_recs.proofs.Ids.{no_record}
use Rattle.arena_map.specs.declared.lift.Lift.{Lift}
use Rattle.arena_map.specs.declared.map_line.MapLine.{MapLine}
use Rattle.arena_map.specs.MapLines.{is_thing_line}
use Rattle.arena_map.specs.Positions.{upwards}
use Rattle.arena_map.specs.Things.{records_from, record_of}
use Rattle.arena_map.specs.Maps.{MapView, IsMap, IsThingInside, lift_of}
use Rattle.arena_map.specs.Validity.{IsValidWorld}
use Rattle.arena_map.proofs.Kept.{each-of}
use Rattle.arena_map.proofs.Opening.{found-in}
use Rattle.arena_map.proofs.ThingRecords.{own-id}
use Rattle.world_tree.specs.Live.{record_at}
use Rattle.world_physics.specs.declared.lift_step.LiftStep.{LiftStep}
use Rattle.world_physics.specs.Returns.{each_changed, record_after_returns, after_returns}
use Rattle.world_physics.specs.LiftSteps.{record_raised_by, is_carried, is_obstructed, is_pressed, is_stopped, lift_after, moved_along, carried_along, step_of, after_step}
use Rattle.world_physics.specs.Ticks.{after_lift, after_thing, after_things, after_tick}
use Rattle.world_physics.specs.Laws.{HaveSameIds, IsStepped, LiftsMakeTheirStep}
use Rattle.world_physics.proofs.Changes.{at-changed}
use Rattle.world_physics.proofs.Finding.{none_found, not_carried_past}
use Rattle.world_physics.proofs.LiftRecords.{IsLiftAt, IsStepAt, has_lift, step_at}
use Rattle.world_physics.proofs.Valid.{returns_keep_valid, either_returned, due_is_item}
use Rattle.world_physics.proofs.Stepping.{own-id as other_id}
use Rattle.world_physics.proofs.Through.{valid_kept, after_one}
use Rattle.world_physics.proofs.Kept.{same_ids_changed, same_ids_lift}

-- ---- slots in which nobody is live

-- nobody is live in the slots of players
abbrev pub AreAlone : List (Option Rec) → Type 0
AreAlone records = (slot : ℕ) → slot < 64 → record_at records slot ≡ None

-- so it is where the same ids are live
still_alone : (old new : List (Option Rec)) → HaveSameIds old new → AreAlone old → AreAlone new
still_alone old new same alone slot below = no_record (record_at new slot) (same.live slot ∙ ap is_some (alone slot below))

-- a step that carries nobody isn't stopped
free_alone : (map : MapView) (records : List (Option Rec)) (step : LiftStep) → IsValidWorld map records → AreAlone records → is_stopped map step records ≡ false
unfolding is_stopped
free_alone map records step valid alone =
    none_found (is_pressed map step records) records (λ k r at. ap (λ b. b && is_obstructed map step records (box_moved_by (body_of r) (upwards step.up))) (left k r at))
  where
    left : (k : ℕ) (r : Rec) → record_at records k ≡ Some r → is_carried step r ≡ false
    left k r at = elim (cases_lt k 64) [
      | inl below ↦ absurd (none-some r (sym (alone k below) ∙ at))
      | inr past ↦ let here = valid.each k r at in not_carried_past step k r (record { is_record = here.is_record; own_id = here.own_id }) past
    ]

-- ---- the lift of an id

-- what became of the record of an id
record Becomes (lift : Lift) (id : ℕ) (old : Rec) (records after : List (Option Rec)) : Type 0 where
  new : Rec
  at : record_at after id ≡ Some new
  is : IsStepped lift records old new

not_item : (kind : Kind) → kind ≡ kinds.Lift → is_item kind ≡ true → ⊥
not_item kind is item = let no : is_item kinds.Lift ≡ true = ap is_item (sym is) ∙ item in cc

module _ (map : MapView) (is_map : IsMap map) (id : ℕ) (lift : Lift) (has : lift_of map id ≡ Some lift) where
  -- its live record is a lift's
  pub is_at : (records : List (Option Rec)) (r : Rec) → IsValidWorld map records → record_at records id ≡ Some r → IsLiftAt map id lift r
  is_at records r valid at =
      let found = has_lift map records id lift is_map valid has in
      subst (IsLiftAt map id lift) (same_Some found.r r (sym found.at ∙ at)) found.is

  -- the step of another lift leaves it
  other_step : (records : List (Option Rec)) (k : ℕ) (step : LiftStep) (r : Rec) → IsValidWorld map records → IsStepAt map records k step → k ≢ id → record_at records id ≡ Some r
      → record_at (after_step map step records) id ≡ Some r
  unfolding after_step
  other_step records k step r valid is apart at = by (is_stopped map step records)
    where
      left : moved_along step r ≡ r
      left =
          let here = valid.each id r at in
          ap (λ b. cond b step.after (carried_along step r)) (other_id map records k step valid is id r at (λ same. apart (sym same)))
          ∙ ap (λ b. cond b (record_raised_by r step.up) r) (not_carried_past step id r (record { is_record = here.is_record; own_id = here.own_id }) (is_at records r valid at).low)

      by : (b : Bool) → record_at (cond b records (each_changed (moved_along step) records)) id ≡ Some r
      by true = at
      by false = at-changed (moved_along step) records id ∙ ap (option_map (moved_along step)) at ∙ ap Some left

  -- its own step
  own_step : (records : List (Option Rec)) (r : Rec) → IsValidWorld map records → record_at records id ≡ Some r
      → Becomes lift id r records (after_step map (step_of lift r) records)
  unfolding after_step step_of
  own_step records r valid at = by (is_stopped map (step_of lift r) records) refl
    where
      made : moved_along (step_of lift r) r ≡ lift_after lift r
      made = let same : (r.id == r.id) ≡ true = grind (arith, nat_tests) in ap (λ b. cond b (lift_after lift r) (carried_along (step_of lift r) r)) same

      by : (b : Bool) → is_stopped map (step_of lift r) records ≡ b
          → Becomes lift id r records (cond b records (each_changed (moved_along (step_of lift r)) records))
      by true e = record {
        new = r;
        at = at;
        is = record { either = inl refl; alone = λ alone. let free = free_alone map records (step_of lift r) valid alone in cc };
      }
      by false e = record {
        new = lift_after lift r;
        at = at-changed (moved_along (step_of lift r)) records id ∙ ap (option_map (moved_along (step_of lift r))) at ∙ ap Some made;
        is = record { either = inr refl; alone = λ alone. refl };
      }

  -- ---- things, one after another

  other_thing : (records : List (Option Rec)) (thing r : Rec) → IsValidWorld map records → thing.id ≢ id → record_at records id ≡ Some r
      → record_at (after_thing map records thing) id ≡ Some r
  other_thing records thing r valid apart at = by (lift_of map thing.id) (record_at records thing.id) refl refl
    where
      by : (l : Option Lift) (o : Option Rec) → lift_of map thing.id ≡ l → record_at records thing.id ≡ o → record_at (after_lift map records l o) id ≡ Some r
      by None o e f = at
      by (Some other) None e f = at
      by (Some other) (Some s) e f = other_step records thing.id (step_of other s) r valid (step_at map records thing.id other s is_map valid e f) apart at

  own_thing : (records : List (Option Rec)) (thing r : Rec) → IsValidWorld map records → thing.id ≡ id → record_at records id ≡ Some r
      → Becomes lift id r records (after_thing map records thing)
  own_thing records thing r valid own at =
      let here : after_thing map records thing ≡ after_step map (step_of lift r) records =
      ap (λ (k : ℕ). after_lift map records (lift_of map k) (record_at records k)) own
      ∙ ap (λ (l : Option Lift). after_lift map records l (record_at records id)) has
      ∙ ap (after_lift map records (Some lift)) at in
      subst (Becomes lift id r records) (sym here) (own_step records r valid at)

  pub valid_thing : (records : List (Option Rec)) (thing : Rec) → IsValidWorld map records → IsValidWorld map (after_thing map records thing)
  valid_thing records thing valid = after_one map (IsValidWorld map) is_map (valid_kept map is_map) records thing valid valid

  -- things with later ids leave it
  pub later : (first : ℕ) (lines : List MapLine) (records : List (Option Rec)) (r : Rec) → IsValidWorld map records → id < first
      → AllByRecursion (λ line. is_thing_line line ≡ true) lines → record_at records id ≡ Some r
      → record_at (after_things map records (records_from first lines)) id ≡ Some r
  later first [] records r valid below each at = at
  later first (line ∷ lines) records r valid below each at =
      let own = own-id first line each.0 in
      later (first + 1) lines (after_thing map records (record_of first line)) r (valid_thing records (record_of first line) valid) (omega (arith, below)) each.1
      (other_thing records (record_of first line) r valid (λ same. omega (arith, below, own, same)) at)

  -- among the things of a map it makes its own step
  among : (first : ℕ) (lines : List MapLine) (records : List (Option Rec)) (r : Rec) → IsValidWorld map records → first ≤ id → id < first + length lines
      → AllByRecursion (λ line. is_thing_line line ≡ true) lines → record_at records id ≡ Some r
      → Becomes lift id r records (after_things map records (records_from first lines))
  among first [] records r valid low high each at = absurd (omega (arith, low, high))
  among first (line ∷ lines) records r valid low high each at =
      let thing = record_of first line in
      let own = own-id first line each.0 in
      let next = after_thing map records thing in
      elim (cases_eq first id) [
        | inl same ↦
            let one = own_thing records thing r valid (own ∙ same) at in
            record { new = one.new; at = later (first + 1) lines next one.new (valid_thing records thing valid) (omega (arith, same)) each.1 one.at; is = one.is }
        | inr apart ↦
            let rest = among (first + 1) lines next r (valid_thing records thing valid) (omega (arith, low, apart)) (omega (arith, high)) each.1
            (other_thing records thing r valid (λ same. apart (sym own ∙ same)) at) in
            record {
              new = rest.new;
              at = rest.at;
              is = record {
                either = rest.is.either;
                alone = λ alone. rest.is.alone (still_alone records next (same_ids_lift map records (lift_of map thing.id) (record_at records thing.id)) alone);
              };
            }
      ]

  -- ---- a tick

  -- it isn't an item that returns
  pub lift_returned : (frame : ℕ) (records : List (Option Rec)) (r : Rec) → IsValidWorld map records → record_at records id ≡ Some r
      → record_at (after_returns frame records) id ≡ Some r
  lift_returned frame records r valid at =
      let same = either_returned (λ s. s ≡ r) frame r refl (λ due. absurd (not_item r.kind (is_at records r valid at).kind (due_is_item frame r due))) in
      at-changed (record_after_returns frame) records id ∙ ap (option_map (record_after_returns frame)) at ∙ ap Some same

  in_tick : (frame : ℕ) (records : List (Option Rec)) (old : Rec) → IsValidWorld map records → record_at records id ≡ Some old
      → Becomes lift id old (after_returns frame records) (after_tick map frame records)
  unfolding after_tick
  in_tick frame records old valid at =
      let its = is_at records old valid at in
      let found = found-in map id its.thing is_map its.found in
      let low = its.low in
      among 64 map.things (after_returns frame records) old (returns_keep_valid map frame records valid) low (omega (arith, low, slice_get_within map.things (id - 64) found.line found.at))
      (each-of (IsThingInside map.bounds) (λ line. is_thing_line line ≡ true) map.things (λ line inside. inside.thing) is_map.things)
      (lift_returned frame records old valid at)

pub lifts_make_their_step : LiftsMakeTheirStep
lifts_make_their_step map frame records id lift old new is_map valid has at_old at_new =
    let b = in_tick map is_map id lift has frame records old valid at_old in
    let stepped : IsStepped lift records old b.new =
    record { either = b.is.either; alone = λ alone. b.is.alone (still_alone records (after_returns frame records) (same_ids_changed (record_after_returns frame) records) alone) } in
    subst (IsStepped lift records old) (same_Some b.new new (sym b.at ∙ at_new)) stepped
