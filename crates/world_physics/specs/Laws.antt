-- What holds of the tick of a frame.
use Rattle.std.specs.Prelude.{◌≡◌, ◌≢◌, ◌⊎◌, ℕ, ◌<◌, ◌≤◌, true, false, Bool, ◌||◌, ℤ, ◌+ℤ◌, ◌-ℤ◌, ◌≤ℤ◌}
use Rattle.std.specs.Prelude.{List, [], ◌∷◌, length, Option, Some, None, is_some}
use Rattle.arena_geo.specs.Vectors.{vector}
use Rattle.arena_geo.specs.Bounds.{Bounds}
use Rattle.arena_geo.specs.Boxes.{overlaps, is_blocked}
use Rattle.entity_recs.specs.declared.kind.Kind.{Kind}
use Rattle.entity_recs.specs.declared.kind.Kind.TheVariants as kinds
use Rattle.entity_recs.specs.declared.rec.Rec.{Rec}
use Rattle.entity_recs.specs.Kinds.{is_solid, is_item}
use Rattle.entity_recs.specs.Records.{with_state}
use Rattle.entity_recs.specs.Bodies.{body_of}
use Rattle.arena_map.specs.declared.lift.Lift.{Lift}
use Rattle.arena_map.specs.MapLines.{is_lift}
use Rattle.arena_map.specs.Maps.{MapView, IsMap, entities_of, lift_of, solids_of}
use Rattle.arena_map.specs.Validity.{IsValidWorld, AreClear}
use Rattle.world_tree.specs.Live.{record_at}
use Rattle.world_physics.specs.LiftSteps.{IsOnItsWay, stands_on, record_raised_by, lift_after}
use Rattle.world_physics.specs.Returns.{after_returns}
use Rattle.world_physics.specs.Ticks.{after_tick}

-- a valid world stays valid
abbrev pub ValidWorldsStayValid : Type 0
ValidWorldsStayValid =
    (map : MapView) (frame : ℕ) (records : List (Option Rec)) → IsMap map → IsValidWorld map records
    → IsValidWorld map (after_tick map frame records)

-- there are as many places as before, and the same ids are live
pub record HaveSameIds (old new : List (Option Rec)) : Type 0 where
  pub count : length new ≡ length old
  pub live : (id : ℕ) → is_some (record_at new id) ≡ is_some (record_at old id)

-- so it is after a tick, whatever the map
abbrev pub IdsStay : Type 0
IdsStay = (map : MapView) (frame : ℕ) (records : List (Option Rec)) → HaveSameIds records (after_tick map frame records)

-- where no player's body overlaps a wall or a block, and no bodies of two solids overlap, none do after a tick
abbrev pub PlayersKeepRoom : Type 0
PlayersKeepRoom =
    (map : MapView) (frame : ℕ) (records : List (Option Rec)) → IsMap map → IsValidWorld map records
    → AreClear map records → AreClear map (after_tick map frame records)

-- a lift stays between its lowest place and its highest
abbrev pub LiftsStayOnTheirWay : Type 0
LiftsStayOnTheirWay =
    (map : MapView) (frame : ℕ) (records : List (Option Rec)) (id : ℕ) (lift : Lift) (r : Rec) → IsMap map
    → IsValidWorld map records → lift_of map id ≡ Some lift → record_at (after_tick map frame records) id ≡ Some r
    → IsOnItsWay lift r

-- the record at this z
abbrev pub at_z : Rec → ℤ → Rec
at_z r z = record r { origin = vector r.origin.x r.origin.y z }

-- the kinds whose state may change: items and lifts
abbrev pub has_state : Kind → Bool
has_state kind = is_item kind || is_lift kind

-- a record after a tick is the one before but for the z of a player or a lift and the state of an item or a lift
pub record ChangesOnly (old new : Rec) : Type 0 where
  pub rest : new ≡ with_state (at_z old new.origin.z) new.state
  pub z : is_solid old.kind ≡ false → new.origin.z ≡ old.origin.z
  pub state : has_state old.kind ≡ false → new.state ≡ old.state

-- so it is with each record
abbrev pub OnlyOriginsAndStatesChange : Type 0
OnlyOriginsAndStatesChange =
    (map : MapView) (frame : ℕ) (records : List (Option Rec)) (id : ℕ) (old new : Rec) → IsMap map
    → IsValidWorld map records → record_at records id ≡ Some old
    → record_at (after_tick map frame records) id ≡ Some new → ChangesOnly old new

-- an item that returns in a frame, or that is there, is there after the frame's tick; one that returns later isn't
pub record IsItemAfter (frame : ℕ) (old new : Rec) : Type 0 where
  pub there : old.state ≤ frame → new ≡ with_state old 0
  pub away : frame < old.state → new ≡ old

-- so it is with each item
abbrev pub ItemsReturnAtTheirFrame : Type 0
ItemsReturnAtTheirFrame =
    (map : MapView) (frame : ℕ) (records : List (Option Rec)) (id : ℕ) (old new : Rec) → IsMap map
    → IsValidWorld map records → record_at records id ≡ Some old → is_item old.kind ≡ true
    → record_at (after_tick map frame records) id ≡ Some new → IsItemAfter frame old new

-- ---- the steps of lifts

-- a lift after a tick is as it was before it, or has made its whole step; where no player is live it has made it
pub record IsStepped (lift : Lift) (records : List (Option Rec)) (old new : Rec) : Type 0 where
  pub either : (new ≡ old) ⊎ (new ≡ lift_after lift old)
  pub alone : ((slot : ℕ) → slot < 64 → record_at records slot ≡ None) → new ≡ lift_after lift old

-- so it is with each lift
abbrev pub LiftsMakeTheirStep : Type 0
LiftsMakeTheirStep =
    (map : MapView) (frame : ℕ) (records : List (Option Rec)) (id : ℕ) (lift : Lift) (old new : Rec) → IsMap map
    → IsValidWorld map records → lift_of map id ≡ Some lift → record_at records id ≡ Some old
    → record_at (after_tick map frame records) id ≡ Some new → IsStepped lift records old new

-- a whole step: the lift is on its way after it, and moved by at most its speed; a rising lift is higher by its speed or
-- at its highest place, a falling one lower by its speed or at its lowest; at its highest place it falls from then on, at
-- its lowest it rises, and between them it goes on; nothing but its z and its state changes
pub record IsWholeStep (lift : Lift) (old new : Rec) : Type 0 where
  pub way : IsOnItsWay lift new
  pub least : (old.origin.z -ℤ lift.speed) ≤ℤ new.origin.z
  pub most : new.origin.z ≤ℤ (old.origin.z +ℤ lift.speed)
  pub rises : old.state ≡ 0
      → (new.origin.z ≡ old.origin.z +ℤ lift.speed) ⊎ (new.origin.z ≡ lift.low +ℤ lift.rise)
  pub falls : old.state ≢ 0 → (new.origin.z ≡ old.origin.z -ℤ lift.speed) ⊎ (new.origin.z ≡ lift.low)
  pub highest : new.origin.z ≡ lift.low +ℤ lift.rise → new.state ≡ 1
  pub lowest : new.origin.z ≡ lift.low → new.state ≡ 0
  pub between : new.origin.z ≢ lift.low +ℤ lift.rise → new.origin.z ≢ lift.low → new.state ≡ old.state
  pub rest : new ≡ with_state (at_z old new.origin.z) new.state

-- such is the step of a lift that is on its way
abbrev pub StepsAreWhole : Type 0
StepsAreWhole = (lift : Lift) (old : Rec) → IsOnItsWay lift old → IsWholeStep lift old (lift_after lift old)

-- the player goes with the lift in its step: it stands on the lift, or the lift's box after the step overlaps its body
abbrev pub goes_with : Lift → Rec → Rec → Bool
goes_with lift old player = stands_on old player || overlaps (body_of player) (body_of (lift_after lift old))

-- a player after a tick is as much higher or lower as the lift is where it goes with the lift, and else as it was
pub record GoesAlong (lift : Lift) (old new player after : Rec) : Type 0 where
  pub along : goes_with lift old player ≡ true → after ≡ record_raised_by player (new.origin.z -ℤ old.origin.z)
  pub left : goes_with lift old player ≡ false → after ≡ player

-- no other id is that of a lift
abbrev pub IsOnlyLift : MapView → ℕ → Type 0
IsOnlyLift map id = (other : ℕ) → other ≢ id → lift_of map other ≡ None

-- so it is with each player on a map with one lift
abbrev pub PlayersGoAlong : Type 0
PlayersGoAlong =
    (map : MapView) (frame : ℕ) (records : List (Option Rec)) (id slot : ℕ) (lift : Lift) (old new player after : Rec)
    → IsMap map → IsValidWorld map records → lift_of map id ≡ Some lift → IsOnlyLift map id
    → record_at records id ≡ Some old → record_at (after_tick map frame records) id ≡ Some new
    → record_at records slot ≡ Some player → player.kind ≡ kinds.Player
    → record_at (after_tick map frame records) slot ≡ Some after → GoesAlong lift old new player after

-- the body overlaps that of another lift, or of a player who doesn't go with the lift
pub record MeetsOther (records : List (Option Rec)) (id : ℕ) (lift : Lift) (old : Rec) (body : Bounds) : Type 0 where
  pub place : ℕ
  pub other : Rec
  pub at : record_at records place ≡ Some other
  pub apart : place ≢ id
  pub solid : is_solid other.kind ≡ true
  pub left : other.kind ≡ kinds.Player → goes_with lift old other ≡ false
  pub meets : overlaps body (body_of other) ≡ true

-- a player's body has no room: it overlaps a wall or a block, the lift after its step, another lift, or a player who
-- doesn't go with the lift
abbrev pub HasNoRoom : MapView → List (Option Rec) → ℕ → Lift → Rec → Bounds → Type 0
HasNoRoom map records id lift old body =
    (is_blocked body (solids_of map) ≡ true)
    ⊎ ((overlaps body (body_of (lift_after lift old)) ≡ true) ⊎ MeetsOther records id lift old body)

-- a player holds the lift: it goes with the lift, and its body would have no room, as much higher or lower as the lift
-- after its step
pub record IsHeld (map : MapView) (records : List (Option Rec)) (id : ℕ) (lift : Lift) (old : Rec) : Type 0 where
  pub slot : ℕ
  pub player : Rec
  pub at : record_at records slot ≡ Some player
  pub is_player : player.kind ≡ kinds.Player
  pub goes : goes_with lift old player ≡ true
  pub no_room : HasNoRoom map records id lift old
      (body_of (record_raised_by player ((lift_after lift old).origin.z -ℤ old.origin.z)))

-- a lift that no player holds makes its whole step, and one that a player holds is as it was
pub record StepsUnlessHeld (map : MapView) (records : List (Option Rec)) (id : ℕ) (lift : Lift) (old new : Rec)
    : Type 0 where
  pub either : (new ≡ lift_after lift old) ⊎ IsHeld map records id lift old
  pub held : IsHeld map records id lift old → new ≡ old

-- so it is with the lift of a map that has one
abbrev pub OnlyPlayersHoldLifts : Type 0
OnlyPlayersHoldLifts =
    (map : MapView) (frame : ℕ) (records : List (Option Rec)) (id : ℕ) (lift : Lift) (old new : Rec) → IsMap map
    → IsValidWorld map records → lift_of map id ≡ Some lift → IsOnlyLift map id → record_at records id ≡ Some old
    → record_at (after_tick map frame records) id ≡ Some new → StepsUnlessHeld map records id lift old new

-- ---- several lifts, in turn

-- the step of a lift is made: the lift is as after its whole step, players go along or stay, and all else is as it was
pub record IsMade (id : ℕ) (lift : Lift) (old : Rec) (before after : List (Option Rec)) : Type 0 where
  pub ids : HaveSameIds before after
  pub own : record_at after id ≡ Some (lift_after lift old)
  pub players : (slot : ℕ) (player new : Rec) → record_at before slot ≡ Some player → player.kind ≡ kinds.Player
      → record_at after slot ≡ Some new → GoesAlong lift old (lift_after lift old) player new
  pub others : (other : ℕ) (r : Rec) → other ≢ id → record_at before other ≡ Some r → r.kind ≢ kinds.Player
      → record_at after other ≡ Some r

-- the turn of a lift: its step is made unless a player holds it, and then nothing changes
pub record IsTurn (map : MapView) (id : ℕ) (lift : Lift) (before after : List (Option Rec)) : Type 0 where
  pub old : Rec
  pub at : record_at before id ≡ Some old
  pub either : IsMade id lift old before after ⊎ IsHeld map before id lift old
  pub held : IsHeld map before id lift old → after ≡ before

-- the turn of an id, if it is that of a lift
abbrev pub IsTurnOf : MapView → ℕ → Option Lift → List (Option Rec) → List (Option Rec) → Type 0
IsTurnOf map id None before after = after ≡ before
IsTurnOf map id (Some lift) before after = IsTurn map id lift before after

-- the turn of a thing, and what holds after it
pub record HasTurn (map : MapView) (thing : Rec) (before : List (Option Rec)) (Rest : List (Option Rec) → Type 0)
    : Type 0 where
  pub between : List (Option Rec)
  pub turn : IsTurnOf map thing.id (lift_of map thing.id) before between
  pub rest : Rest between

-- the lifts among these things have had their turns, one after another
abbrev pub AreTurns : MapView → List Rec → List (Option Rec) → List (Option Rec) → Type 0
AreTurns map [] before after = after ≡ before
AreTurns map (thing ∷ things) before after = HasTurn map thing before (λ between. AreTurns map things between after)

-- after a tick the lifts have had their turns, in rising id, from the records after the returns
abbrev pub LiftsStepInTurn : Type 0
LiftsStepInTurn =
    (map : MapView) (frame : ℕ) (records : List (Option Rec)) → IsMap map → IsValidWorld map records
    → AreTurns map (entities_of map) (after_returns frame records) (after_tick map frame records)
