-- Who goes along with the one lift of a map.
use Rattle.std.proofs.Common.{◌≡◌, ◌≢◌, ℕ, ◌+◌, ◌-◌, ◌<◌, ◌≤◌, ◌==◌, Bool, true, false, cond, ◌&&◌, ℤ, ◌+ℤ◌, ◌-ℤ◌, List, [], ◌∷◌, length, Option, Some, refl, sym, ap, ◌∙◌, inl, inr, arith}
use Rattle.std.specs.List.{AllByRecursion}
use Rattle.std.specs.Option.{option_map}
use Rattle.std.proofs.lemmas.Bool.{cases_eq}
use Rattle.std.proofs.lemmas.Bool.Decides.{nat_tests}
use Rattle.std.proofs.lemmas.Int.{ints}
use Rattle.std.proofs.lemmas.Option.{same_Some, slice_get_within}
use Rattle.entity_recs.specs.declared.kind.Kind.{Kind}
use Rattle.entity_recs.specs.declared.kind.Kind.TheVariants as kinds
use Rattle.entity_recs.specs.declared.rec.Rec.{Rec}
use Rattle.entity_recs.specs.Kinds.{is_item, is_player}
use Rattle.arena_map.specs.declared.lift.Lift.{Lift}
use Rattle.arena_map.specs.declared.map_line.MapLine.{MapLine}
use Rattle.arena_map.specs.MapLines.{is_thing_line}
use Rattle.arena_map.specs.Things.{records_from, record_of}
use Rattle.arena_map.specs.Maps.{MapView, IsMap, IsThingInside, lift_of}
use Rattle.arena_map.specs.Validity.{IsValidWorld}
use Rattle.arena_map.proofs.Kept.{each-of}
use Rattle.arena_map.proofs.Opening.{found-in}
use Rattle.arena_map.proofs.ThingRecords.{own-id}
use Rattle.world_tree.specs.Live.{record_at}
use Rattle.world_physics.specs.Returns.{each_changed, record_after_returns, after_returns}
use Rattle.world_physics.specs.LiftSteps.{is_carried, is_stopped, record_raised_by, distance_up, lift_after, moved_along, carried_along, step_of, after_step}
use Rattle.world_physics.specs.Ticks.{after_lift, after_thing, after_things, after_tick}
use Rattle.world_physics.specs.Laws.{goes_with, GoesAlong, IsOnlyLift, PlayersGoAlong}
use Rattle.world_physics.proofs.Changes.{at-changed}
use Rattle.world_physics.proofs.Valid.{either_returned, due_is_item}
use Rattle.world_physics.proofs.OwnSteps.{is_at, lift_returned}

-- ---- the tick of a map with one lift

module _ (map : MapView) (id : ℕ) (lift : Lift) (has : lift_of map id ≡ Some lift) (only : IsOnlyLift map id) where
  -- other things make no step
  no_step : (records : List (Option Rec)) (thing : Rec) → thing.id ≢ id → after_thing map records thing ≡ records
  no_step records thing apart = ap (λ (l : Option Lift). after_lift map records l (record_at records thing.id)) (only thing.id apart)

  the_step : (records : List (Option Rec)) (thing r : Rec) → thing.id ≡ id → record_at records id ≡ Some r → after_thing map records thing ≡ after_step map (step_of lift r) records
  the_step records thing r own at =
      ap (λ (k : ℕ). after_lift map records (lift_of map k) (record_at records k)) own
      ∙ ap (λ (l : Option Lift). after_lift map records l (record_at records id)) has
      ∙ ap (after_lift map records (Some lift)) at

  none_later : (first : ℕ) (lines : List MapLine) (records : List (Option Rec)) → id < first → AllByRecursion (λ line. is_thing_line line ≡ true) lines
      → after_things map records (records_from first lines) ≡ records
  none_later first [] records below each = refl
  none_later first (line ∷ lines) records below each =
      let own = own-id first line each.0 in
      ap (λ (rs : List (Option Rec)). after_things map rs (records_from (first + 1) lines)) (no_step records (record_of first line) (λ same. omega (arith, below, own, same)))
      ∙ none_later (first + 1) lines records (omega (arith, below)) each.1

  one_among : (first : ℕ) (lines : List MapLine) (records : List (Option Rec)) (r : Rec) → first ≤ id → id < first + length lines
      → AllByRecursion (λ line. is_thing_line line ≡ true) lines → record_at records id ≡ Some r
      → after_things map records (records_from first lines) ≡ after_step map (step_of lift r) records
  one_among first [] records r low high each at = absurd (omega (arith, low, high))
  one_among first (line ∷ lines) records r low high each at =
      let own = own-id first line each.0 in
      let rest = λ (rs : List (Option Rec)). after_things map rs (records_from (first + 1) lines) in
      elim (cases_eq first id) [
        | inl same ↦
            ap rest (the_step records (record_of first line) r (own ∙ same) at)
            ∙ none_later (first + 1) lines (after_step map (step_of lift r) records) (omega (arith, same)) each.1
        | inr apart ↦
            ap rest (no_step records (record_of first line) (λ same. apart (sym own ∙ same)))
            ∙ one_among (first + 1) lines records r (omega (arith, low, apart)) (omega (arith, high)) each.1 at
      ]

  -- is the step of this lift after the returns
  pub tick-is : (is_map : IsMap map) (frame : ℕ) (records : List (Option Rec)) (old : Rec) → IsValidWorld map records → record_at records id ≡ Some old
      → after_tick map frame records ≡ after_step map (step_of lift old) (after_returns frame records)
  unfolding after_tick
  tick-is is_map frame records old valid at =
      let its = is_at map is_map id lift has records old valid at in
      let found = found-in map id its.thing is_map its.found in
      let low = its.low in
      one_among 64 map.things (after_returns frame records) old low (omega (arith, low, slice_get_within map.things (id - 64) found.line found.at))
      (each-of (IsThingInside map.bounds) (λ line. is_thing_line line ≡ true) map.things (λ line inside. inside.thing) is_map.things)
      (lift_returned map is_map id lift has frame records old valid at)

-- ---- players

player_no_item : (kind : Kind) → kind ≡ kinds.Player → is_item kind ≡ true → ⊥
player_no_item kind is item = let no : is_item kinds.Player ≡ true = ap is_item (sym is) ∙ item in cc

player_no_lift : (kind : Kind) → kind ≡ kinds.Player → kind ≡ kinds.Lift → ⊥
player_no_lift kind is lift = let both : kinds.Player ≡ kinds.Lift = sym is ∙ lift in cc

-- a player isn't changed by the returns
player_returned : (frame : ℕ) (records : List (Option Rec)) (slot : ℕ) (player : Rec) → player.kind ≡ kinds.Player → record_at records slot ≡ Some player
    → record_at (after_returns frame records) slot ≡ Some player
player_returned frame records slot player kind at =
    let same = either_returned (λ s. s ≡ player) frame player refl (λ due. absurd (player_no_item player.kind kind (due_is_item frame player due))) in
    at-changed (record_after_returns frame) records slot ∙ ap (option_map (record_after_returns frame)) at ∙ ap Some same

by_nothing : (r : Rec) (at : ℤ) → r ≡ record_raised_by r (at -ℤ at)
by_nothing r at =
    let none : r.origin.z ≡ r.origin.z +ℤ (at -ℤ at) = omega (arith, ints) in
    λ i. record r { origin = record { x = r.origin.x; y = r.origin.y; z = none i } }

pub by_as_much : (r : Rec) (at up : ℤ) → record_raised_by r up ≡ record_raised_by r ((at +ℤ up) -ℤ at)
by_as_much r at up =
    let same : r.origin.z +ℤ up ≡ r.origin.z +ℤ ((at +ℤ up) -ℤ at) = omega (arith, ints) in
    λ i. record r { origin = record { x = r.origin.x; y = r.origin.y; z = same i } }

-- a step that isn't made leaves the lift and the player
not_made : (lift : Lift) (old player : Rec) → GoesAlong lift old old player player
not_made lift old player = record { along = λ h. by_nothing player old.origin.z; left = λ h. refl }

-- a player is carried where it goes with the lift
pub carried-goes : (lift : Lift) (old player : Rec) → player.kind ≡ kinds.Player → is_carried (step_of lift old) player ≡ goes_with lift old player
unfolding step_of
carried-goes lift old player kind = ap (λ (k : Kind). is_player k && goes_with lift old player) kind

-- a step that is made takes the player along, or leaves it
pub made : (lift : Lift) (old player : Rec) → player.kind ≡ kinds.Player → (player.id == old.id) ≡ false
    → GoesAlong lift old (lift_after lift old) player (moved_along (step_of lift old) player)
unfolding step_of
made lift old player kind apart = record {
  along = λ h.
      not_lift
      ∙ ap (λ b. cond b (record_raised_by player (distance_up lift old)) player) (carried-goes lift old player kind ∙ h)
      ∙ by_as_much player old.origin.z (distance_up lift old);
  left = λ h. not_lift ∙ ap (λ b. cond b (record_raised_by player (distance_up lift old)) player) (carried-goes lift old player kind ∙ h);
}
  where
    not_lift : moved_along (step_of lift old) player ≡ carried_along (step_of lift old) player
    not_lift = ap (λ b. cond b (lift_after lift old) (carried_along (step_of lift old) player)) apart

-- the lift in its own step
pub lift_made : (lift : Lift) (old : Rec) → moved_along (step_of lift old) old ≡ lift_after lift old
unfolding step_of
lift_made lift old = let same : (old.id == old.id) ≡ true = grind (arith, nat_tests) in ap (λ b. cond b (lift_after lift old) (carried_along (step_of lift old) old)) same

-- what a live record becomes where each is changed
pub becomes : (f : Rec → Rec) (records : List (Option Rec)) (id : ℕ) (old new : Rec) → record_at records id ≡ Some old → record_at (each_changed f records) id ≡ Some new → f old ≡ new
becomes f records id old new at_old at_new = same_Some (f old) new (sym (ap (option_map f) at_old) ∙ sym (at-changed f records id) ∙ at_new)

-- both, in a step
in_step : (map : MapView) (lift : Lift) (records : List (Option Rec)) (id slot : ℕ) (old new player after : Rec) → player.kind ≡ kinds.Player
    → (player.id == old.id) ≡ false → record_at records id ≡ Some old → record_at records slot ≡ Some player
    → record_at (after_step map (step_of lift old) records) id ≡ Some new → record_at (after_step map (step_of lift old) records) slot ≡ Some after
    → GoesAlong lift old new player after
unfolding after_step
in_step map lift records id slot old new player after kind apart at_old at_player = by (is_stopped map (step_of lift old) records)
  where
    both : (a b : Rec) → a ≡ new → b ≡ after → GoesAlong lift old a player b → GoesAlong lift old new player after
    both a b e f goes = rw (sym e, sym f) goes

    by : (b : Bool) → record_at (cond b records (each_changed (moved_along (step_of lift old)) records)) id ≡ Some new
        → record_at (cond b records (each_changed (moved_along (step_of lift old)) records)) slot ≡ Some after → GoesAlong lift old new player after
    by true at_new at_after = both old player (same_Some old new (sym at_old ∙ at_new)) (same_Some player after (sym at_player ∙ at_after)) (not_made lift old player)
    by false at_new at_after =
        both (lift_after lift old) (moved_along (step_of lift old) player)
        (sym (lift_made lift old) ∙ becomes (moved_along (step_of lift old)) records id old new at_old at_new)
        (becomes (moved_along (step_of lift old)) records slot player after at_player at_after)
        (made lift old player kind apart)

-- a player has another id than a lift
pub apart_ids : (map : MapView) (records : List (Option Rec)) (id slot : ℕ) (old player : Rec) → IsValidWorld map records → record_at records id ≡ Some old → record_at records slot ≡ Some player
    → old.kind ≡ kinds.Lift → player.kind ≡ kinds.Player → (player.id == old.id) ≡ false
apart_ids map records id slot old player valid at_old at_player lift kind =
    let own = (valid.each slot player at_player).own_id in
    let its = (valid.each id old at_old).own_id in
    let differ : player.id ≢ old.id = λ same.
    let here : slot ≡ id = sym own ∙ same ∙ its in
    let one : player ≡ old = same_Some player old (sym at_player ∙ ap (record_at records) here ∙ at_old) in
    player_no_lift player.kind kind (ap (λ (r : Rec). r.kind) one ∙ lift) in
    grind (arith, nat_tests)

pub players_go_along : PlayersGoAlong
players_go_along map frame records id slot lift old new player after is_map valid has only at_old at_new at_player kind at_after =
    let its = is_at map is_map id lift has records old valid at_old in
    let is = tick-is map id lift has only is_map frame records old valid at_old in
    in_step map lift (after_returns frame records) id slot old new player after kind
    (apart_ids map records id slot old player valid at_old at_player its.kind kind)
    (lift_returned map is_map id lift has frame records old valid at_old) (player_returned frame records slot player kind at_player)
    (sym (ap (λ (rs : List (Option Rec)). record_at rs id) is) ∙ at_new) (sym (ap (λ (rs : List (Option Rec)). record_at rs slot) is) ∙ at_after)
