-- Players keep room in a tick.
use Rattle.std.proofs.Common.{◌≡◌, ◌≢◌, ◌⊎◌, ℕ, ◌==◌, Bool, true, false, cond, ◌&&◌, ◌||◌, List, Option, Some, None, is_some, ℤ, ◌+ℤ◌, pos, int_lt, refl, sym, ap, ◌∙◌, subst, inl, inr, arith}
use Rattle.std.proofs.lemmas.Int.{ints}
use Rattle.std.proofs.lemmas.Option.{same_Some}
use Rattle.std.proofs.lemmas.Bool.{or_parts}
use Rattle.arena_geo.specs.Bounds.{Bounds}
use Rattle.arena_geo.specs.Boxes.{overlaps_on, overlaps, box_moved_by, is_blocked}
use Rattle.arena_geo.proofs.Overlaps.{overlaps-flips}
use Rattle.entity_recs.specs.declared.kind.Kind.{Kind}
use Rattle.entity_recs.specs.declared.kind.Kind.TheVariants as kinds
use Rattle.entity_recs.specs.declared.rec.Rec.{Rec}
use Rattle.entity_recs.specs.Kinds.{is_solid, is_player}
use Rattle.entity_recs.specs.Bodies.{body_of}
use Rattle.arena_map.specs.declared.lift.Lift.{Lift}
use Rattle.arena_map.specs.MapLines.{is_lift}
use Rattle.arena_map.specs.Positions.{upwards}
use Rattle.arena_map.specs.Maps.{MapView, IsMap, entities_of, lift_of, solids_of}
use Rattle.arena_map.specs.Validity.{IsValidWorld, AreClear}
use Rattle.arena_map.proofs.ThingData.{live_records_have_data}
use Rattle.world_tree.specs.Live.{record_at}
use Rattle.world_physics.specs.declared.lift_step.LiftStep.{LiftStep}
use Rattle.world_physics.specs.Returns.{each_changed, record_after_returns, after_returns}
use Rattle.world_physics.specs.LiftSteps.{stands_on, is_carried, stays, is_in_the_way, is_stopped, record_raised_by, moved_along, after_step}
use Rattle.world_physics.specs.Ticks.{after_tick}
use Rattle.world_physics.specs.Laws.{PlayersKeepRoom}
use Rattle.world_physics.proofs.Changes.{was_before}
use Rattle.world_physics.proofs.Finding.{not_found}
use Rattle.world_physics.proofs.Raised.{raised-body}
use Rattle.world_physics.proofs.LiftRecords.{has_lift, IsLiftAt, IsStepAt}
use Rattle.world_physics.proofs.Valid.{returns_keep_valid, either_returned, has_way, clear_way, either_moved, at_lift}
use Rattle.world_physics.proofs.Shafts.{AreApart, lifts_apart}
use Rattle.world_physics.proofs.Through.{through}

-- ---- boxes that move together

together_on : (lo hi l h by : ℤ) → overlaps_on (lo +ℤ by) (hi +ℤ by) (l +ℤ by) (h +ℤ by) ≡ overlaps_on lo hi l h
together_on lo hi l h by =
    let one : int_lt (lo +ℤ by) (h +ℤ by) ≡ int_lt lo h = grind (arith, ints) in
    let other : int_lt (l +ℤ by) (hi +ℤ by) ≡ int_lt l hi = grind (arith, ints) in
    ap (λ b. b && int_lt (l +ℤ by) (hi +ℤ by)) one ∙ ap (λ b. int_lt lo h && b) other

-- boxes that move together overlap as before
together : (a b : Bounds) (up : ℤ) → overlaps (box_moved_by a (upwards up)) (box_moved_by b (upwards up)) ≡ overlaps a b
together a b up =
    let x = together_on a.lo.x a.hi.x b.lo.x b.hi.x (pos 0) in
    let y = together_on a.lo.y a.hi.y b.lo.y b.hi.y (pos 0) in
    let z = together_on a.lo.z a.hi.z b.lo.z b.hi.z up in
    λ i. x i && y i && z i

-- ---- what stays

pub is_solid_kind : (kind : Kind) → is_solid kind ≡ true → (kind ≡ kinds.Player) ⊎ (kind ≡ kinds.Lift)
is_solid_kind kinds.Player h = inl refl
is_solid_kind kinds.Lift h = inr refl
is_solid_kind kinds.Ammo h = cc
is_solid_kind kinds.Gem h = cc
is_solid_kind kinds.Teleporter h = cc
is_solid_kind kinds.Goal h = cc

-- the data of a lift
record HasData (l : Option Lift) : Type 0 where
  lift : Lift
  is : l ≡ Some lift

lift_there : (l : Option Lift) → is_some l ≡ true → HasData l
lift_there None h = cc
lift_there (Some lift) h = record { lift = lift; is = refl }

not_player : (kind : Kind) → kind ≡ kinds.Lift → kind ≡ kinds.Player → ⊥
not_player kind a b = let both : kinds.Lift ≡ kinds.Player = sym a ∙ b in cc

module _ (map : MapView) (records : List (Option Rec)) (id : ℕ) (step : LiftStep) (is_map : IsMap map) (valid : IsValidWorld map records) (is : IsStepAt map records id step)
    (free : is_stopped map step records ≡ false) (clear : AreClear map records) where
  -- how a record moves in the step
  data Move (k : ℕ) (r new : Rec) : Type 0 where
    lifted : k ≡ id → new ≡ step.after → Move k r new
    carried : is_carried step r ≡ true → new ≡ record_raised_by r step.up → Move k r new
    left : (r.id == step.before.id) ≡ false → is_carried step r ≡ false → new ≡ r → Move k r new

  move_of : (k : ℕ) (r : Rec) → record_at records k ≡ Some r → Move k r (moved_along step r)
  move_of k r at = by (r.id == step.before.id) (is_carried step r) refl refl
    where
      by : (b c : Bool) → (r.id == step.before.id) ≡ b → is_carried step r ≡ c → Move k r (cond b step.after (cond c (record_raised_by r step.up) r))
      by true c e f = lifted (at_lift map records id step is_map valid is free k r at e) refl
      by false true e f = carried f refl
      by false false e f = left e f refl

  -- who is carried is apart from the lift's new box
  apart_from_lift : (k : ℕ) (r : Rec) → record_at records k ≡ Some r → is_carried step r ≡ true → AreApart (body_of (record_raised_by r step.up)) (body_of step.after)
  apart_from_lift k r at c =
      ap (λ (b : Bounds). overlaps b (body_of step.after)) (raised-body r step.up) ∙ (or_parts _ _ (or_parts _ _ (has_way map step records k r free at c)).0).1

  -- and from the solids that stay
  apart_from_left : (k j : ℕ) (r s : Rec) → record_at records k ≡ Some r → is_carried step r ≡ true → record_at records j ≡ Some s → is_solid s.kind ≡ true
      → (s.id == step.before.id) ≡ false → is_carried step s ≡ false → AreApart (body_of (record_raised_by r step.up)) (body_of s)
  apart_from_left k j r s at_k c at_j solid other stays_there =
      let body = box_moved_by (body_of r) (upwards step.up) in
      let none = (or_parts _ _ (has_way map step records k r free at_k c)).1 in
      let it_stays : stays step s ≡ true = rw (solid, other, stays_there) refl in
      ap (λ (b : Bounds). overlaps b (body_of s)) (raised-body r step.up)
      ∙ sym (ap (λ b. b && overlaps body (body_of s)) it_stays)
      ∙ not_found (is_in_the_way step body) records j s none at_j

  -- the lift's new box is apart from the solids that stay
  lift_from_left : (j : ℕ) (s : Rec) → record_at records j ≡ Some s → is_solid s.kind ≡ true → j ≢ id → is_carried step s ≡ false → AreApart (body_of s) (body_of step.after)
  lift_from_left j s at solid differ stays_there = elim (is_solid_kind s.kind solid) [
    | inl player ↦
        let here : is_player s.kind ≡ true = ap is_player player in
        (or_parts (stands_on step.before s) (overlaps (body_of s) (body_of step.after))
        (sym (ap (λ b. b && (stands_on step.before s || overlaps (body_of s) (body_of step.after))) here) ∙ stays_there)).1
    | inr lift ↦
        let its = lift_there (lift_of map j) ((live_records_have_data map records j s is_map valid at).2 ∙ ap is_lift lift) in
        let live = has_lift map records j its.lift is_map valid its.is in
        let P : Rec → Type 0 = IsLiftAt map j its.lift in
        lifts_apart map j id its.lift is.lift s step.after is_map its.is is.has (subst P (same_Some live.r s (sym live.at ∙ at)) live.is) is.after differ
  ]

  -- the bodies of two solids don't overlap after the step
  pair : (i j : ℕ) (r s new other : Rec) → record_at records i ≡ Some r → record_at records j ≡ Some s → is_solid r.kind ≡ true → is_solid s.kind ≡ true → i ≢ j → Move i r new
      → Move j s other → AreApart (body_of new) (body_of other)
  pair i j r s new other at_i at_j solid_r solid_s differ (lifted here a) (lifted there b) = absurd (differ (here ∙ sym there))
  pair i j r s new other at_i at_j solid_r solid_s differ (lifted here a) (carried c b) =
      ap (λ (x : Rec). overlaps (body_of x) (body_of other)) a
      ∙ ap (λ (y : Rec). overlaps (body_of step.after) (body_of y)) b
      ∙ overlaps-flips (body_of step.after) (body_of (record_raised_by s step.up))
      ∙ apart_from_lift j s at_j c
  pair i j r s new other at_i at_j solid_r solid_s differ (lifted here a) (left e f b) =
      ap (λ (x : Rec). overlaps (body_of x) (body_of other)) a
      ∙ ap (λ (y : Rec). overlaps (body_of step.after) (body_of y)) b
      ∙ overlaps-flips (body_of step.after) (body_of s)
      ∙ lift_from_left j s at_j solid_s (λ there. differ (here ∙ sym there)) f
  pair i j r s new other at_i at_j solid_r solid_s differ (carried c a) (lifted there b) =
      ap (λ (x : Rec). overlaps (body_of x) (body_of other)) a ∙ ap (λ (y : Rec). overlaps (body_of (record_raised_by r step.up)) (body_of y)) b ∙ apart_from_lift i r at_i c
  pair i j r s new other at_i at_j solid_r solid_s differ (carried c a) (carried d b) =
      ap (λ (x : Rec). overlaps (body_of x) (body_of other)) a
      ∙ ap (λ (y : Rec). overlaps (body_of (record_raised_by r step.up)) (body_of y)) b
      ∙ ap (λ (x : Bounds). overlaps x (body_of (record_raised_by s step.up))) (raised-body r step.up)
      ∙ ap (overlaps (box_moved_by (body_of r) (upwards step.up))) (raised-body s step.up)
      ∙ together (body_of r) (body_of s) step.up
      ∙ clear.of_each_other i j r s at_i at_j solid_r solid_s differ
  pair i j r s new other at_i at_j solid_r solid_s differ (carried c a) (left e f b) =
      ap (λ (x : Rec). overlaps (body_of x) (body_of other)) a
      ∙ ap (λ (y : Rec). overlaps (body_of (record_raised_by r step.up)) (body_of y)) b
      ∙ apart_from_left i j r s at_i c at_j solid_s e f
  pair i j r s new other at_i at_j solid_r solid_s differ (left e f a) (lifted there b) =
      ap (λ (x : Rec). overlaps (body_of x) (body_of other)) a
      ∙ ap (λ (y : Rec). overlaps (body_of r) (body_of y)) b
      ∙ lift_from_left i r at_i solid_r (λ here. differ (here ∙ sym there)) f
  pair i j r s new other at_i at_j solid_r solid_s differ (left e f a) (carried d b) =
      ap (λ (x : Rec). overlaps (body_of x) (body_of other)) a
      ∙ ap (λ (y : Rec). overlaps (body_of r) (body_of y)) b
      ∙ overlaps-flips (body_of r) (body_of (record_raised_by s step.up))
      ∙ apart_from_left j i s r at_j d at_i solid_r e f
  pair i j r s new other at_i at_j solid_r solid_s differ (left e f a) (left g h b) =
      ap (λ (x : Rec). overlaps (body_of x) (body_of other)) a
      ∙ ap (λ (y : Rec). overlaps (body_of r) (body_of y)) b
      ∙ clear.of_each_other i j r s at_i at_j solid_r solid_s differ

  solid_before : (k : ℕ) (r : Rec) → record_at records k ≡ Some r → is_solid (moved_along step r).kind ≡ is_solid r.kind
  solid_before k r at =
      either_moved map records id step is_map valid is free (λ j s. is_solid s.kind ≡ is_solid r.kind) k r at refl
      (λ here.
      let same : step.before ≡ r = same_Some step.before r (sym is.at ∙ sym (ap (record_at records) here) ∙ at) in
      ap is_solid is.after.kind ∙ sym (ap is_solid is.before.kind) ∙ ap (λ (s : Rec). is_solid s.kind) same)
      (λ c. refl)

  -- no wall and no block overlaps a player after the step
  of_the_map : (k : ℕ) (r : Rec) → record_at records k ≡ Some r → (moved_along step r).kind ≡ kinds.Player → is_blocked (body_of (moved_along step r)) (solids_of map) ≡ false
  of_the_map k r at =
      either_moved map records id step is_map valid is free (λ j (s : Rec). s.kind ≡ kinds.Player → is_blocked (body_of s) (solids_of map) ≡ false) k r at
      (λ player. clear.of_the_map k r at player)
      (λ here player. absurd (not_player step.after.kind is.after.kind player))
      (λ c player.
      ap (λ (b : Bounds). is_blocked b (solids_of map)) (raised-body r step.up)
      ∙ clear_way map step records (box_moved_by (body_of r) (upwards step.up)) (has_way map step records k r free at c))

  pub clear_done : AreClear map (each_changed (moved_along step) records)
  clear_done = record {
    of_the_map = λ k new at player.
        let w = was_before (moved_along step) records k new at in
        ap (λ (s : Rec). is_blocked (body_of s) (solids_of map)) w.is ∙ of_the_map k w.was w.at (sym (ap (λ (s : Rec). s.kind) w.is) ∙ player);
    of_each_other = λ i j new other at_i at_j solid_i solid_j differ.
        let a = was_before (moved_along step) records i new at_i in
        let b = was_before (moved_along step) records j other at_j in
        ap (λ (x : Rec). overlaps (body_of x) (body_of other)) a.is
        ∙ ap (λ (y : Rec). overlaps (body_of (moved_along step a.was)) (body_of y)) b.is
        ∙ pair i j a.was b.was (moved_along step a.was) (moved_along step b.was) a.at b.at
        (sym (solid_before i a.was a.at) ∙ sym (ap (λ (s : Rec). is_solid s.kind) a.is) ∙ solid_i)
        (sym (solid_before j b.was b.at) ∙ sym (ap (λ (s : Rec). is_solid s.kind) b.is) ∙ solid_j)
        differ (move_of i a.was a.at) (move_of j b.was b.at);
  }

clear_step : (map : MapView) (records : List (Option Rec)) (id : ℕ) (step : LiftStep) → IsMap map → IsValidWorld map records → IsStepAt map records id step → AreClear map records
    → AreClear map (after_step map step records)
unfolding after_step
clear_step map records id step is_map valid is clear = by (is_stopped map step records) refl
  where
    by : (b : Bool) → is_stopped map step records ≡ b → AreClear map (cond b records (each_changed (moved_along step) records))
    by true e = clear
    by false e = clear_done map records id step is_map valid is e clear

-- bodies are where they were after items return
clear_returned : (map : MapView) (frame : ℕ) (records : List (Option Rec)) → AreClear map records → AreClear map (after_returns frame records)
clear_returned map frame records clear = record {
  of_the_map = λ k new at player.
      let w = was_before (record_after_returns frame) records k new at in
      ap (λ (s : Rec). is_blocked (body_of s) (solids_of map)) w.is
      ∙ ap (λ (b : Bounds). is_blocked b (solids_of map)) (same_body w.was)
      ∙ clear.of_the_map k w.was w.at (sym (same_kind w.was) ∙ sym (ap (λ (s : Rec). s.kind) w.is) ∙ player);
  of_each_other = λ i j new other at_i at_j solid_i solid_j differ.
      let a = was_before (record_after_returns frame) records i new at_i in
      let b = was_before (record_after_returns frame) records j other at_j in
      ap (λ (x : Rec). overlaps (body_of x) (body_of other)) a.is
      ∙ ap (λ (y : Rec). overlaps (body_of (record_after_returns frame a.was)) (body_of y)) b.is
      ∙ ap (λ (x : Bounds). overlaps x (body_of (record_after_returns frame b.was))) (same_body a.was)
      ∙ ap (overlaps (body_of a.was)) (same_body b.was)
      ∙ clear.of_each_other i j a.was b.was a.at b.at
      (ap is_solid (sym (same_kind a.was)) ∙ sym (ap (λ (s : Rec). is_solid s.kind) a.is) ∙ solid_i)
      (ap is_solid (sym (same_kind b.was)) ∙ sym (ap (λ (s : Rec). is_solid s.kind) b.is) ∙ solid_j)
      differ;
}
  where
    same_body : (r : Rec) → body_of (record_after_returns frame r) ≡ body_of r
    same_body r = either_returned (λ s. body_of s ≡ body_of r) frame r refl (λ due. refl)

    same_kind : (r : Rec) → (record_after_returns frame r).kind ≡ r.kind
    same_kind r = either_returned (λ (s : Rec). s.kind ≡ r.kind) frame r refl (λ due. refl)

pub players_keep_room : PlayersKeepRoom
unfolding after_tick
players_keep_room map frame records is_map valid clear =
    through map (AreClear map) is_map (record { by = λ rs id step v is holds. clear_step map rs id step is_map v is holds }) (entities_of map) (after_returns frame records)
    (returns_keep_valid map frame records valid) (clear_returned map frame records clear)
