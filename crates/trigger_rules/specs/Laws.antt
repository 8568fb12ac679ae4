-- What holds of every walk over what a player touches.
use Rattle.std.specs.Prelude.{◌≡◌, ◌≢◌, ◌⊎◌, ◌↔◌, ℕ, ◌+◌, ◌-◌, ◌*◌, ◌<◌, ◌≤◌, ◌==◌, min, bit_or, Bool, true, false, ◌&&◌}
use Rattle.std.specs.Prelude.{List, ◌∷◌, ◌++◌, map, length, count_by, Contains, All, Some}
use Rattle.std.specs.List.{IsDistinct, list_any}
use Rattle.std.specs.List.Sorted.{IsStrictlyIncreasing}
use Rattle.arena_geo.specs.declared.vec3.Vec3.{Vec3}
use Rattle.arena_geo.specs.Vectors.{zero_vector}
use Rattle.arena_geo.specs.Boxes.{contains, is_blocked}
use Rattle.entity_recs.specs.declared.bodies.TheConstants.{PLAYER_MINS, PLAYER_MAXS}
use Rattle.entity_recs.specs.declared.effect.NewState.{NewState}
use Rattle.entity_recs.specs.declared.kind.Kind.{Kind}
use Rattle.entity_recs.specs.declared.kind.Kind.TheVariants.{Player, Ammo, Gem, Teleporter, Goal}
use Rattle.entity_recs.specs.declared.rec.Rec.{Rec}
use Rattle.entity_recs.specs.Kinds.{number_of, is_item}
use Rattle.entity_recs.specs.Records.{IsRecord, HasCorners}
use Rattle.entity_recs.specs.Bodies.{body_of, abs_of, player_body, is_touched}
use Rattle.entity_recs.specs.Touches.{IsInReach}
use Rattle.arena_map.specs.Maps.{MapView, IsMap, dest_of, delay_of}
use Rattle.trigger_rules.specs.Touching.{touched_by, solids_among, Walk, touched}

-- a player within its bounds touches those of the records that are in its reach, each and no others; their ids rise, where
-- those of the records do
pub record TouchedAreInReach : Type 0 where
  pub each : (me : Rec) (near : List Rec) (r : Rec) → IsRecord me → me.kind ≡ Player
      → Contains (touched_by me near) r ↔ (Contains near r × IsInReach me.origin r)
  pub rising : (me : Rec) (near : List Rec) → IsStrictlyIncreasing (map (λ r. r.id) near)
      → IsStrictlyIncreasing (map (λ r. r.id) (touched_by me near))

-- the player has at most 100 of ammunition and carries at most 8 gems
pub record HasFewThings (me : Rec) : Type 0 where
  pub ammo : me.ammo ≤ 100
  pub carry : me.carry ≤ 8

-- nobody's ammunition passes 100, and nobody carries more than 8
abbrev pub ThingsStayFew : Type 0
ThingsStayFew =
    (arena : MapView) (frame : ℕ) (me : Rec) (near : List Rec) → HasFewThings me
    → HasFewThings (touched arena frame me near).me

-- a new state is that of an item that was there and is touched: the frame plus the item's delay
pub record IsTaken (arena : MapView) (frame : ℕ) (me : Rec) (near : List Rec) (new : NewState) : Type 0 where
  pub item : Rec
  pub listed : Contains near item
  pub own : item.id ≡ new.id
  pub kind : is_item item.kind ≡ true
  pub there : item.state ≡ 0
  pub is_near : is_touched (abs_of me) item ≡ true
  pub delay : ℕ
  pub delay_is : delay_of arena item.id ≡ Some delay
  pub state : new.state ≡ frame + delay

-- the ids of new states
abbrev pub ids_of : List NewState → List ℕ
ids_of states = map (λ s. s.id) states

-- the ids in `got` are those of the new states, each of which is that of an item that was there; they are at most 8
pub record AreTaken (arena : MapView) (frame : ℕ) (me : Rec) (near : List Rec)
    (states : List NewState) (got : List ℕ) : Type 0 where
  pub got_are : got ≡ ids_of states
  pub each : All (IsTaken arena frame me near) states
  pub few : length got ≤ 8

-- what a player got was there, and returns after its delay; nothing else changes state
abbrev pub ItemsWereThere : Type 0
ItemsWereThere =
    (arena : MapView) (frame : ℕ) (me : Rec) (near : List Rec)
    → let w = touched arena frame me near in AreTaken arena frame me near w.states w.got

-- why a player that touches an item doesn't get it: the item is away; 8 were got; the player has 100 of ammunition; or
-- it had 8 gems, which it still carries or has brought to a goal
pub data IsLeftFor (me : Rec) (w : Walk) (item : Rec) : Type 0 where
  IsAway : item.state ≢ 0 → IsLeftFor me w item
  AreEnough : length w.got ≡ 8 → IsLeftFor me w item
  IsArmed : item.kind ≡ Ammo → w.me.ammo ≡ 100 → IsLeftFor me w item
  IsLaden : item.kind ≡ Gem → me.score + 8 ≤ w.me.score + w.me.carry → IsLeftFor me w item

-- each item of the map among these triggers was got, or left for one of these reasons
abbrev pub AreTakenOrLeft : MapView → Rec → List Rec → Walk → Type 0
AreTakenOrLeft arena me triggers w =
    (item : Rec) (delay : ℕ) → Contains triggers item → is_item item.kind ≡ true → delay_of arena item.id ≡ Some delay
    → Contains w.got item.id ⊎ IsLeftFor me w item

-- each item of the map that a player touches it gets, or leaves for a reason, where no teleporter moves it and its
-- score isn't at its end
abbrev pub TouchedItemsAreTaken : Type 0
TouchedItemsAreTaken =
    (arena : MapView) (frame : ℕ) (me : Rec) (near : List Rec) → HasFewThings me
    → let w = touched arena frame me near in
    w.ended ≡ false → w.me.score < 4294967295 → AreTakenOrLeft arena me (touched_by me near) w

-- the ids of what it got rise, where those of the records do
abbrev pub GotIdsRise : Type 0
GotIdsRise =
    (arena : MapView) (frame : ℕ) (me : Rec) (near : List Rec) → IsStrictlyIncreasing (map (λ r. r.id) near)
    → IsStrictlyIncreasing (touched arena frame me near).got

-- the trigger is an item of this kind that was got
abbrev pub is_got : Kind → Walk → Rec → Bool
is_got kind w r = (number_of r.kind == number_of kind) && list_any (λ id. id == r.id) w.got

-- how many of these triggers are items of this kind that were got
abbrev pub count_got : Kind → List Rec → Walk → ℕ
count_got kind triggers w = count_by (is_got kind w) triggers

-- a player has the ammunition that it had and 20 for each item of it that it got, up to 100, where the ids of the
-- records rise
abbrev pub AmmunitionIsCounted : Type 0
AmmunitionIsCounted =
    (arena : MapView) (frame : ℕ) (me : Rec) (near : List Rec) → IsStrictlyIncreasing (map (λ r. r.id) near)
    → HasFewThings me
    → let w = touched arena frame me near in
    w.me.ammo ≡ min 100 (me.ammo + 20 * count_got Ammo (touched_by me near) w)

-- no gem is lost: those that a player carries and has brought in are those of before and those that it got, where the
-- ids of the records rise and its score is below its end
abbrev pub NoGemIsLost : Type 0
NoGemIsLost =
    (arena : MapView) (frame : ℕ) (me : Rec) (near : List Rec) → IsStrictlyIncreasing (map (λ r. r.id) near)
    → let w = touched arena frame me near in
    w.me.score < 4294967295
    → w.me.score + w.me.carry ≡ me.score + me.carry + count_got Gem (touched_by me near) w

-- of so many gems a player carries some; it has brought in the others, which are its score, up to 4,294,967,295
pub record IsScoreOf (gems : ℕ) (me : Rec) : Type 0 where
  pub carried : me.carry ≤ gems
  pub score : me.score ≡ min 4294967295 (gems - me.carry)

-- a player's score is its score of before with the gems that it carried and those that it got, without those that it
-- carries, up to 4,294,967,295, where the ids of the records rise
abbrev pub ScoresAreCounted : Type 0
ScoresAreCounted =
    (arena : MapView) (frame : ℕ) (me : Rec) (near : List Rec) → IsStrictlyIncreasing (map (λ r. r.id) near)
    → me.score ≤ 4294967295
    → let w = touched arena frame me near in
    IsScoreOf (me.score + me.carry + count_got Gem (touched_by me near) w) w.me

-- none of these triggers is a goal
abbrev pub HaveNoGoal : List Rec → Type 0
HaveNoGoal triggers = All (λ r. r.kind ≢ Goal) triggers

-- so many gems a player carries after it touched these triggers: those that it got after the last goal among them; or,
-- if none of them is a goal, those that it carried before and those that it got
pub record AreCarried (gems : ℕ) (me : Rec) (triggers : List Rec) (w : Walk) : Type 0 where
  pub after_a_goal : (before : List Rec) (goal : Rec) (after : List Rec) → triggers ≡ before ++ goal ∷ after
      → goal.kind ≡ Goal → HaveNoGoal after → gems ≡ count_got Gem after w
  pub without_a_goal : HaveNoGoal triggers → gems ≡ me.carry + count_got Gem triggers w

-- at a goal a player leaves all that it carries, where no teleporter moves it and the ids of the records rise
abbrev pub GoalsTakeWhatIsCarried : Type 0
GoalsTakeWhatIsCarried =
    (arena : MapView) (frame : ℕ) (me : Rec) (near : List Rec) → IsStrictlyIncreasing (map (λ r. r.id) near)
    → let w = touched arena frame me near in w.ended ≡ false → AreCarried w.me.carry me (touched_by me near) w

-- why a player had no room for an item when it touched it, after these triggers: it had got 8 items, which are all
-- that it got; it had 100 of ammunition; or it carried 8 gems
pub data HadNoRoom (me : Rec) (before : List Rec) (w : Walk) (item : Rec) : Type 0 where
  WereEnough : length w.got ≡ 8 → All (λ id. id < item.id) w.got → HadNoRoom me before w item
  WasArmed : item.kind ≡ Ammo → 100 ≤ me.ammo + 20 * count_got Ammo before w → HadNoRoom me before w item
  WasLaden : item.kind ≡ Gem → AreCarried 8 me before w → HadNoRoom me before w item

-- each item of the map among these triggers that was there was got, or there was no room for it then
abbrev pub AreLeftWithoutRoom : MapView → Rec → List Rec → Walk → Type 0
AreLeftWithoutRoom arena me triggers w =
    (before : List Rec) (item : Rec) (after : List Rec) (delay : ℕ) → triggers ≡ before ++ item ∷ after
    → is_item item.kind ≡ true → delay_of arena item.id ≡ Some delay → item.state ≡ 0
    → Contains w.got item.id ⊎ HadNoRoom me before w item

-- a player leaves an item of the map that is there only where it has no room for it then, where no teleporter moves it
-- and the ids of the records rise
abbrev pub ItemsAreLeftWithoutRoom : Type 0
ItemsAreLeftWithoutRoom =
    (arena : MapView) (frame : ℕ) (me : Rec) (near : List Rec) → IsStrictlyIncreasing (map (λ r. r.id) near)
    → HasFewThings me
    → let w = touched arena frame me near in w.ended ≡ false → AreLeftWithoutRoom arena me (touched_by me near) w

-- no score falls
abbrev pub ScoresNeverFall : Type 0
ScoresNeverFall =
    (arena : MapView) (frame : ℕ) (me : Rec) (near : List Rec) → me.score ≤ 4294967295
    → me.score ≤ (touched arena frame me near).me.score

-- a player that a teleporter has moved: its body overlaps no solid, and it is at rest
pub record HasLeapt (arena : MapView) (near : List Rec) (me : Rec) : Type 0 where
  pub free : is_blocked (body_of me) (solids_among arena near) ≡ false
  pub at_rest : me.vel ≡ zero_vector

-- after a leap the body overlaps no solid
abbrev pub LeapsAreFree : Type 0
LeapsAreFree =
    (arena : MapView) (frame : ℕ) (me : Rec) (near : List Rec) → HasCorners PLAYER_MINS PLAYER_MAXS me.mins me.maxs
    → (touched arena frame me near).ended ≡ true → HasLeapt arena near (touched arena frame me near).me

-- the player is where it was, as fast as it was
pub record IsInPlace (before after : Rec) : Type 0 where
  pub origin : after.origin ≡ before.origin
  pub vel : after.vel ≡ before.vel
  pub flags : after.flags ≡ before.flags

-- a solid among these records is in the way at the destination of each teleporter among these triggers
abbrev pub AreBlocked : MapView → List Rec → List Rec → Type 0
AreBlocked arena near triggers =
    (teleporter : Rec) (dest : Vec3) → Contains triggers teleporter → teleporter.kind ≡ Teleporter
    → dest_of arena teleporter.id ≡ Some dest → is_blocked (player_body dest) (solids_among arena near) ≡ true

-- each teleporter that a player touches is blocked, where none has moved it
abbrev pub PassedTeleportersAreBlocked : Type 0
PassedTeleportersAreBlocked =
    (arena : MapView) (frame : ℕ) (me : Rec) (near : List Rec) → (touched arena frame me near).ended ≡ false
    → AreBlocked arena near (touched_by me near)

-- a teleporter that a player touched has moved it to its destination and set bit 1 of its flags. Of the triggers that
-- it touched the teleporters before this one were blocked, the items before it were got or left, the goals before it
-- took what was carried, and nothing after it was got
pub record HasLeaptFrom (arena : MapView) (frame : ℕ) (me : Rec) (near : List Rec) (w : Walk) : Type 0 where
  pub before : List Rec
  pub teleporter : Rec
  pub after : List Rec
  pub touched_are : touched_by me near ≡ before ++ teleporter ∷ after
  pub kind : teleporter.kind ≡ Teleporter
  pub dest : dest_of arena teleporter.id ≡ Some w.me.origin
  pub flags : w.me.flags ≡ bit_or me.flags 2
  pub passed : AreBlocked arena near before
  pub items : HasFewThings me → w.me.score < 4294967295 → AreTakenOrLeft arena me before w
  pub room : IsStrictlyIncreasing (map (λ r. r.id) near) → HasFewThings me → AreLeftWithoutRoom arena me before w
  pub gems : IsStrictlyIncreasing (map (λ r. r.id) near) → AreCarried w.me.carry me before w
  pub got : AreTaken arena frame me before w.states w.got

-- each leap is from a teleporter that the player touched, the first that isn't blocked
abbrev pub LeapsAreFromTeleporters : Type 0
LeapsAreFromTeleporters =
    (arena : MapView) (frame : ℕ) (me : Rec) (near : List Rec)
    → let w = touched arena frame me near in w.ended ≡ true → HasLeaptFrom arena frame me near w

-- without a leap the player stays where it is
abbrev pub OnlyLeapsMove : Type 0
OnlyLeapsMove =
    (arena : MapView) (frame : ℕ) (me : Rec) (near : List Rec) → (touched arena frame me near).ended ≡ false
    → IsInPlace me (touched arena frame me near).me

-- the player is the same one, in the same shape
pub record IsSamePlayer (before after : Rec) : Type 0 where
  pub id : after.id ≡ before.id
  pub kind : after.kind ≡ before.kind
  pub mins : after.mins ≡ before.mins
  pub maxs : after.maxs ≡ before.maxs
  pub seq : after.seq ≡ before.seq
  pub state : after.state ≡ before.state

-- nobody becomes another, or another shape
abbrev pub PlayersStayThemselves : Type 0
PlayersStayThemselves =
    (arena : MapView) (frame : ℕ) (me : Rec) (near : List Rec) → IsSamePlayer me (touched arena frame me near).me

-- the destination of each teleporter that a player touches is free among these records exactly where it is among the
-- others
abbrev pub HaveSameWays : MapView → Rec → List Rec → List Rec → Type 0
HaveSameWays arena me near others =
    (r : Rec) (dest : Vec3) → Contains (touched_by me near) r → r.kind ≡ Teleporter → dest_of arena r.id ≡ Some dest
    → is_blocked (player_body dest) (solids_among arena near)
    ≡ is_blocked (player_body dest) (solids_among arena others)

-- records that the player doesn't touch change nothing, unless they are in the way at the destination of a teleporter
-- that it touches
abbrev pub OnlyTouchedMatters : Type 0
OnlyTouchedMatters =
    (arena : MapView) (frame : ℕ) (me : Rec) (near others : List Rec) → touched_by me near ≡ touched_by me others
    → HaveSameWays arena me near others
    → touched arena frame me near ≡ touched arena frame me others

-- a player on a map: its record is within its bounds, its score is that of its type, and its body is inside the arena
pub record IsPlayerOn (arena : MapView) (me : Rec) : Type 0 where
  pub kind : me.kind ≡ Player
  pub is_record : IsRecord me
  pub score : me.score ≤ 4294967295
  pub inside : contains arena.bounds (body_of me) ≡ true

-- a player on a map stays one
abbrev pub PlayersStayOn : Type 0
PlayersStayOn =
    (arena : MapView) (frame : ℕ) (me : Rec) (near : List Rec) → IsMap arena → IsPlayerOn arena me
    → IsPlayerOn arena (touched arena frame me near).me

-- two new states are those of one record
abbrev pub is_same_record : NewState → NewState → Bool
is_same_record a b = a.id == b.id

-- no record gets two new states, where the ids of the records rise
abbrev pub StatesAreApart : Type 0
StatesAreApart =
    (arena : MapView) (frame : ℕ) (me : Rec) (near : List Rec) → IsStrictlyIncreasing (map (λ r. r.id) near)
    → IsDistinct is_same_record (touched arena frame me near).states
