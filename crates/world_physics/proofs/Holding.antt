-- What holds a lift in its turn, and the turns of all lifts.
use Rattle.std.proofs.Common.{◌≡◌, ◌≢◌, ℕ, zero, suc, ◌==◌, Bool, true, false, not, cond, ◌&&◌, ◌||◌, ◌-ℤ◌, List, [], ◌∷◌, Option, Some, None, refl, sym, ap, ◌∙◌, subst, inl, inr, arith}
use Rattle.std.specs.List.{list_any}
use Rattle.std.specs.Option.{option_map}
use Rattle.std.proofs.lemmas.Bool.{cases_Bool, or_cases, and_from, or_left, or_right, and_parts, not-true}
use Rattle.std.proofs.lemmas.Bool.Decides.{nat_tests}
use Rattle.std.proofs.lemmas.Option.{same_Some}
use Rattle.arena_geo.specs.Bounds.{Bounds}
use Rattle.arena_geo.specs.Boxes.{overlaps, box_moved_by, is_blocked}
use Rattle.entity_recs.specs.declared.kind.Kind.{Kind}
use Rattle.entity_recs.specs.declared.kind.Kind.TheVariants as kinds
use Rattle.entity_recs.specs.declared.rec.Rec.{Rec}
use Rattle.entity_recs.specs.Kinds.{is_solid, is_item, is_player}
use Rattle.entity_recs.specs.Bodies.{body_of}
use Rattle.arena_map.specs.declared.lift.Lift.{Lift}
use Rattle.arena_map.specs.Positions.{upwards}
use Rattle.arena_map.specs.Maps.{MapView, IsMap, entities_of, lift_of, solids_of}
use Rattle.arena_map.specs.Validity.{IsValidWorld}
use Rattle.world_tree.specs.Live.{record_at, live_in}
use Rattle.world_physics.specs.Returns.{each_changed, record_after_returns, after_returns}
use Rattle.world_physics.specs.LiftSteps.{carried_along, is_carried, stays, is_in_the_way, is_obstructed, is_pressed, is_stopped, record_raised_by, distance_up, lift_after, moved_along, step_of, after_step}
use Rattle.world_physics.specs.Ticks.{after_lift, after_thing, after_things, after_tick}
use Rattle.world_physics.specs.Laws.{goes_with, GoesAlong, MeetsOther, HasNoRoom, IsHeld, StepsUnlessHeld, OnlyPlayersHoldLifts, IsMade, IsTurn, IsTurnOf, AreTurns, LiftsStepInTurn}
use Rattle.world_physics.proofs.Changes.{at-changed, was_before}
use Rattle.world_physics.proofs.Clear.{is_solid_kind}
use Rattle.world_physics.proofs.Finding.{found}
use Rattle.world_physics.proofs.Kept.{item_is_no_solid, kind_returned, same_ids_changed}
use Rattle.world_physics.proofs.LiftRecords.{has_lift}
use Rattle.world_physics.proofs.Through.{valid_kept, after_one}
use Rattle.world_physics.proofs.Raised.{raised-body}
use Rattle.world_physics.proofs.Valid.{either_returned, due_is_item, carried_is_player, returns_keep_valid}
use Rattle.world_physics.proofs.OwnSteps.{is_at, lift_returned}
use Rattle.world_physics.proofs.Riders.{tick-is, by_as_much, carried-goes, made, lift_made, becomes, apart_ids}

-- ---- tests

-- a live record that passes
record IsFound (p : Rec → Bool) (records : List (Option Rec)) : Type 0 where
  id : ℕ
  r : Rec
  at : record_at records id ≡ Some r
  passes : p r ≡ true

is_found : (p : Rec → Bool) (records : List (Option Rec)) → list_any p (live_in records) ≡ true → IsFound p records
is_found p [] h = cc
is_found p (None ∷ records) h = let rest = is_found p records h in record { id = suc rest.id; r = rest.r; at = rest.at; passes = rest.passes }
is_found p (Some x ∷ records) h = elim (cases_Bool (p x)) [
  | inl passes ↦ record { id = zero; r = x; at = refl; passes = passes }
  | inr fails ↦
      let rest = is_found p records (sym (ap (λ b. b || list_any p (live_in records)) fails) ∙ h) in
      record { id = suc rest.id; r = rest.r; at = rest.at; passes = rest.passes }
]

-- ---- solids before and after the returns

solid_no_item : (kind : Kind) → is_solid kind ≡ true → is_item kind ≡ true → ⊥
solid_no_item kind solid item = let no = item_is_no_solid kind item in cc

solid_after : (frame : ℕ) (records : List (Option Rec)) (id : ℕ) (r : Rec) → is_solid r.kind ≡ true → record_at records id ≡ Some r
    → record_at (after_returns frame records) id ≡ Some r
solid_after frame records id r solid at =
    let same = either_returned (λ s. s ≡ r) frame r refl (λ due. absurd (solid_no_item r.kind solid (due_is_item frame r due))) in
    at-changed (record_after_returns frame) records id ∙ ap (option_map (record_after_returns frame)) at ∙ ap Some same

solid_before : (frame : ℕ) (records : List (Option Rec)) (id : ℕ) (r : Rec) → is_solid r.kind ≡ true → record_at (after_returns frame records) id ≡ Some r
    → record_at records id ≡ Some r
solid_before frame records id r solid at =
    let w = was_before (record_after_returns frame) records id r at in
    let own : is_solid w.was.kind ≡ true = ap is_solid (sym (kind_returned frame w.was) ∙ sym (ap (λ (s : Rec). s.kind) w.is)) ∙ solid in
    let same = either_returned (λ s. s ≡ w.was) frame w.was refl (λ due. absurd (solid_no_item w.was.kind own (due_is_item frame w.was due))) in
    w.at ∙ ap Some (sym (w.is ∙ same))

-- what holds a lift is there before the returns where it is there after them, and the other way round
record AreAlike (one other : List (Option Rec)) : Type 0 where
  there : (id : ℕ) (r : Rec) → is_solid r.kind ≡ true → record_at one id ≡ Some r → record_at other id ≡ Some r

room_alike : (map : MapView) (one other : List (Option Rec)) (id : ℕ) (lift : Lift) (old : Rec) (body : Bounds) → AreAlike one other → HasNoRoom map one id lift old body
    → HasNoRoom map other id lift old body
room_alike map one other id lift old body alike (inl solid) = inl solid
room_alike map one other id lift old body alike (inr (inl box)) = inr (inl box)
room_alike map one other id lift old body alike (inr (inr m)) = inr (inr (record {
  place = m.place;
  other = m.other;
  at = alike.there m.place m.other m.solid m.at;
  apart = m.apart;
  solid = m.solid;
  left = m.left;
  meets = m.meets;
}))

held_alike : (map : MapView) (one other : List (Option Rec)) (id : ℕ) (lift : Lift) (old : Rec) → AreAlike one other → IsHeld map one id lift old → IsHeld map other id lift old
held_alike map one other id lift old alike h = record {
  slot = h.slot;
  player = h.player;
  at = alike.there h.slot h.player (ap is_solid h.is_player) h.at;
  is_player = h.is_player;
  goes = h.goes;
  no_room = room_alike map one other id lift old (body_of (record_raised_by h.player ((lift_after lift old).origin.z -ℤ old.origin.z))) alike h.no_room;
}

-- ---- who is pressed holds the lift

carried_body : (lift : Lift) (old player : Rec)
    → body_of (record_raised_by player ((lift_after lift old).origin.z -ℤ old.origin.z)) ≡ box_moved_by (body_of player) (upwards (distance_up lift old))
carried_body lift old player = ap body_of (sym (by_as_much player old.origin.z (distance_up lift old))) ∙ raised-body player (distance_up lift old)

module _ (map : MapView) (id : ℕ) (lift : Lift) (records : List (Option Rec)) (valid : IsValidWorld map records) (old : Rec) (at_old : record_at records id ≡ Some old)
    (is_lift_there : old.kind ≡ kinds.Lift) where
  same_place : (place : ℕ) (r : Rec) → record_at records place ≡ Some r → place ≡ id → (r.id == old.id) ≡ true
  same_place place r at same =
      let own = (valid.each place r at).own_id in
      let its = (valid.each id old at_old).own_id in
      grind (arith, nat_tests)

  other_place : (place : ℕ) (r : Rec) → record_at records place ≡ Some r → place ≢ id → (r.id == old.id) ≡ false
  other_place place r at apart =
      let own = (valid.each place r at).own_id in
      let its = (valid.each id old at_old).own_id in
      let differ : r.id ≢ old.id = λ same. apart (sym own ∙ same ∙ its) in
      grind (arith, nat_tests)

  meets_of : (body : Bounds) → IsFound (is_in_the_way (step_of lift old) body) records → MeetsOther records id lift old body
  unfolding step_of
  meets_of body f =
      let both = and_parts (stays (step_of lift old) f.r) (overlaps body (body_of f.r)) f.passes in
      let outer = and_parts (is_solid f.r.kind && not (f.r.id == old.id)) (not (is_carried (step_of lift old) f.r)) both.0 in
      let inner = and_parts (is_solid f.r.kind) (not (f.r.id == old.id)) outer.0 in
      record {
        place = f.id;
        other = f.r;
        at = f.at;
        apart = λ same. let here = same_place f.id f.r f.at same in let apart = not-true (f.r.id == old.id) inner.1 in cc;
        solid = inner.0;
        left = λ kind. sym (carried-goes lift old f.r kind) ∙ not-true (is_carried (step_of lift old) f.r) outer.1;
        meets = both.1;
      }

  no_room_of : (body : Bounds) → is_obstructed map (step_of lift old) records body ≡ true → HasNoRoom map records id lift old body
  unfolding step_of
  no_room_of body h =
      elim (or_cases (is_blocked body (solids_of map) || overlaps body (body_of (lift_after lift old))) (list_any (is_in_the_way (step_of lift old) body) (live_in records)) h) [
        | inl first ↦ elim (or_cases (is_blocked body (solids_of map)) (overlaps body (body_of (lift_after lift old))) first) [
          | inl solid ↦ inl solid
          | inr box ↦ inr (inl box)
        ]
        | inr other ↦ inr (inr (meets_of body (is_found (is_in_the_way (step_of lift old) body) records other)))
      ]

  -- where the step is stopped, a player holds the lift
  held_of : is_stopped map (step_of lift old) records ≡ true → IsHeld map records id lift old
  unfolding is_stopped step_of
  held_of stopped =
      let f = is_found (is_pressed map (step_of lift old) records) records stopped in
      let parts = and_parts (is_carried (step_of lift old) f.r) (is_obstructed map (step_of lift old) records (box_moved_by (body_of f.r) (upwards (distance_up lift old)))) f.passes in
      let kind = carried_is_player (step_of lift old) f.r parts.0 in
      let P : Bounds → Type 0 = HasNoRoom map records id lift old in
      record {
        slot = f.id;
        player = f.r;
        at = f.at;
        is_player = kind;
        goes = sym (carried-goes lift old f.r kind) ∙ parts.0;
        no_room = subst P (sym (carried_body lift old f.r)) (no_room_of (box_moved_by (body_of f.r) (upwards (distance_up lift old))) parts.1);
      }

  -- ---- who holds the lift is pressed

  not_carried : (r : Rec) → is_solid r.kind ≡ true → (r.kind ≡ kinds.Player → goes_with lift old r ≡ false) → is_carried (step_of lift old) r ≡ false
  unfolding step_of
  not_carried r solid left = elim (is_solid_kind r.kind solid) [
    | inl player ↦ carried-goes lift old r player ∙ left player
    | inr other ↦ ap (λ (k : Kind). is_player k && goes_with lift old r) other
  ]

  way_of : (body : Bounds) → MeetsOther records id lift old body → list_any (is_in_the_way (step_of lift old) body) (live_in records) ≡ true
  unfolding step_of
  way_of body m =
      let apart = other_place m.place m.other m.at m.apart in
      let left = not_carried m.other m.solid m.left in
      found (is_in_the_way (step_of lift old) body) records m.place m.other m.at
      (and_from (stays (step_of lift old) m.other) (overlaps body (body_of m.other)) (and_from _ _ (and_from _ _ m.solid (ap not apart)) (ap not left)) m.meets)

  obstructed_of : (body : Bounds) → HasNoRoom map records id lift old body → is_obstructed map (step_of lift old) records body ≡ true
  unfolding step_of
  obstructed_of body (inl solid) = or_left _ _ (or_left _ _ solid)
  obstructed_of body (inr (inl box)) = or_left _ _ (or_right (is_blocked body (solids_of map)) (overlaps body (body_of (lift_after lift old))) box)
  obstructed_of body (inr (inr m)) = or_right (is_blocked body (solids_of map) || overlaps body (body_of (lift_after lift old))) _ (way_of body m)

  stopped_of : IsHeld map records id lift old → is_stopped map (step_of lift old) records ≡ true
  unfolding is_stopped step_of
  stopped_of h =
      let P : Bounds → Type 0 = HasNoRoom map records id lift old in
      found (is_pressed map (step_of lift old) records) records h.slot h.player h.at
      (and_from (is_carried (step_of lift old) h.player) _ (carried-goes lift old h.player h.is_player ∙ h.goes)
      (obstructed_of (box_moved_by (body_of h.player) (upwards (distance_up lift old))) (subst P (carried_body lift old h.player) h.no_room)))

  -- ---- the step

  record_after : (r new : Rec) (place : ℕ) → record_at records place ≡ Some r → record_at (each_changed (moved_along (step_of lift old)) records) place ≡ Some new
      → moved_along (step_of lift old) r ≡ new
  record_after r new place at_r at_new = becomes (moved_along (step_of lift old)) records place r new at_r at_new

  others_stay : (other : ℕ) (r : Rec) → other ≢ id → record_at records other ≡ Some r → r.kind ≢ kinds.Player
      → record_at (each_changed (moved_along (step_of lift old)) records) other ≡ Some r
  unfolding step_of
  others_stay other r apart at kind =
      let left : is_carried (step_of lift old) r ≡ false = elim (cases_Bool (is_carried (step_of lift old) r)) [
        | inl carried ↦ absurd (kind (carried_is_player (step_of lift old) r carried))
        | inr stays_there ↦ stays_there
      ] in
      let same : moved_along (step_of lift old) r ≡ r =
      ap (λ b. cond b (lift_after lift old) (carried_along (step_of lift old) r)) (other_place other r at apart)
      ∙ ap (λ b. cond b (record_raised_by r (distance_up lift old)) r) left in
      at-changed (moved_along (step_of lift old)) records other ∙ ap (option_map (moved_along (step_of lift old))) at ∙ ap Some same

  is_made : IsMade id lift old records (each_changed (moved_along (step_of lift old)) records)
  is_made = record {
    ids = same_ids_changed (moved_along (step_of lift old)) records;
    own = at-changed (moved_along (step_of lift old)) records id ∙ ap (option_map (moved_along (step_of lift old))) at_old ∙ ap Some (lift_made lift old);
    players = λ slot player new at kind at_new.
        let apart = apart_ids map records id slot old player valid at_old at is_lift_there kind in
        subst (GoesAlong lift old (lift_after lift old) player) (record_after player new slot at at_new) (made lift old player kind apart);
    others = others_stay;
  }

  pub is_turn : IsTurn map id lift records (after_step map (step_of lift old) records)
  unfolding after_step
  is_turn = by (is_stopped map (step_of lift old) records) refl
    where
      by : (b : Bool) → is_stopped map (step_of lift old) records ≡ b → IsTurn map id lift records (cond b records (each_changed (moved_along (step_of lift old)) records))
      by true e = record { old = old; at = at_old; either = inr (held_of e); held = λ h. refl }
      by false e = record { old = old; at = at_old; either = inl is_made; held = λ h. let stopped = stopped_of h in cc }

-- ---- a map with one lift

-- what a turn makes of the lift's own record
own_in_turn : (map : MapView) (id : ℕ) (lift : Lift) (before after : List (Option Rec)) (old new : Rec) → record_at before id ≡ Some old → record_at after id ≡ Some new
    → IsTurn map id lift before after → StepsUnlessHeld map before id lift old new
own_in_turn map id lift before after old new at_old at_new t =
    let same : t.old ≡ old = same_Some t.old old (sym t.at ∙ at_old) in
    let own : StepsUnlessHeld map before id lift t.old new = record {
      either = elim t.either [ inl is ↦ inl (same_Some new (lift_after lift t.old) (sym at_new ∙ is.own)) | inr held ↦ inr held ];
      held = λ h. same_Some new t.old (sym at_new ∙ ap (λ (rs : List (Option Rec)). record_at rs id) (t.held h) ∙ t.at);
    } in
    let P : Rec → Type 0 = λ r. StepsUnlessHeld map before id lift r new in
    subst P same own

pub only_players_hold_lifts : OnlyPlayersHoldLifts
only_players_hold_lifts map frame records id lift old new is_map valid has only at_old at_new =
    let its = is_at map is_map id lift has records old valid at_old in
    let is = tick-is map id lift has only is_map frame records old valid at_old in
    let back = after_returns frame records in
    let there = lift_returned map is_map id lift has frame records old valid at_old in
    let turn = is_turn map id lift back (returns_keep_valid map frame records valid) old there its.kind in
    let s = own_in_turn map id lift back (after_step map (step_of lift old) back) old new there (sym (ap (λ (rs : List (Option Rec)). record_at rs id) is) ∙ at_new) turn in
    record {
      either = elim s.either [
        | inl step ↦ inl step
        | inr held ↦ inr (held_alike map back records id lift old (record { there = solid_before frame records }) held)
      ];
      held = λ h. s.held (held_alike map records back id lift old (record { there = solid_after frame records }) h);
    }

-- ---- several lifts

turn_of : (map : MapView) (records : List (Option Rec)) (id : ℕ) → IsMap map → IsValidWorld map records → (l : Option Lift) → lift_of map id ≡ l
    → IsTurnOf map id l records (after_lift map records l (record_at records id))
turn_of map records id is_map valid None has = refl
turn_of map records id is_map valid (Some lift) has =
    let live = has_lift map records id lift is_map valid has in
    subst (IsTurn map id lift records) (sym (ap (after_lift map records (Some lift)) live.at)) (is_turn map id lift records valid live.r live.at live.is.kind)

turns : (map : MapView) (things : List Rec) (records : List (Option Rec)) → IsMap map → IsValidWorld map records → AreTurns map things records (after_things map records things)
turns map [] records is_map valid = refl
turns map (thing ∷ things) records is_map valid =
    let next = after_thing map records thing in
    record {
      between = next;
      turn = turn_of map records thing.id is_map valid (lift_of map thing.id) refl;
      rest = turns map things next is_map (after_one map (IsValidWorld map) is_map (valid_kept map is_map) records thing valid valid);
    }

pub lifts_step_in_turn : LiftsStepInTurn
unfolding after_tick
lifts_step_in_turn map frame records is_map valid = turns map (entities_of map) (after_returns frame records) is_map (returns_keep_valid map frame records valid)
