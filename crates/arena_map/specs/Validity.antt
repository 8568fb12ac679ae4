-- Which worlds are valid for a map: records by id, each within its bounds, the things as their lines say, and the
-- players inside the arena.
use Rattle.std.specs.Prelude.{◌≡◌, ◌≢◌, ℕ, ◌≤◌, ◌==◌, Bool, true, false, List, Option, Some, None, ⊤, ◌+ℤ◌, ◌≤ℤ◌}
use Rattle.std.specs.Prelude.{slice_index_or}
use Rattle.std.specs.List.{find}
use Rattle.arena_geo.specs.Boxes.{contains, overlaps, is_blocked}
use Rattle.entity_recs.specs.declared.kind.Kind.{Kind}
use Rattle.entity_recs.specs.declared.kind.Kind.TheVariants.{Player}
use Rattle.entity_recs.specs.declared.rec.Rec.{Rec}
use Rattle.entity_recs.specs.Records.{IsRecord, IsStateOf}
use Rattle.entity_recs.specs.Kinds.{is_solid}
use Rattle.entity_recs.specs.Bodies.{body_of}
use Rattle.arena_map.specs.declared.lift.Lift.{Lift}
use Rattle.arena_map.specs.Maps.{MapView, entities_of, lift_of, solids_of}

-- the record has the kind and the shape of a thing, at its place
pub record IsSameThing (thing r : Rec) : Type 0 where
  pub kind : r.kind ≡ thing.kind
  pub origin : r.origin ≡ thing.origin
  pub mins : r.mins ≡ thing.mins
  pub maxs : r.maxs ≡ thing.maxs

-- the record is a lift's, between its lowest place and its highest
pub record IsSameLift (lift : Lift) (thing r : Rec) : Type 0 where
  pub kind : r.kind ≡ thing.kind
  pub x : r.origin.x ≡ thing.origin.x
  pub y : r.origin.y ≡ thing.origin.y
  pub low : lift.low ≤ℤ r.origin.z
  pub high : r.origin.z ≤ℤ (lift.low +ℤ lift.rise)
  pub mins : r.mins ≡ thing.mins
  pub maxs : r.maxs ≡ thing.maxs

-- the record is as the line of the thing says
abbrev pub IsAsItsLine : Option Lift → Rec → Rec → Type 0
IsAsItsLine None thing r = IsSameThing thing r
IsAsItsLine (Some lift) thing r = IsSameLift lift thing r

-- a thing of the map is live, and as its line says; where there is none, none is live
abbrev pub IsThing : MapView → Option Rec → Option Rec → Type 0
IsThing map None None = ⊤
IsThing map None (Some r) = ⊥
IsThing map (Some thing) None = ⊥
IsThing map (Some thing) (Some r) = IsAsItsLine (lift_of map thing.id) thing r

-- the states of a player where nobody shoots: 0; and where players shoot: up to 99 it is the damage, and from there on 100
-- and the frame in which the player moves again, so each number is one
abbrev pub IsPlayerState : Bool → ℕ → Type 0
IsPlayerState false state = IsStateOf Player state
IsPlayerState true state = Unit {0}

-- the states of a player on a map, which says whether players shoot
abbrev pub IsPlayerStateOn : MapView → ℕ → Type 0
IsPlayerStateOn map state = IsPlayerState map.shots state

-- the states of a kind on a map: the map decides which are a player's
abbrev pub IsStateOn : MapView → Kind → ℕ → Type 0
IsStateOn map Player state = IsPlayerStateOn map state
IsStateOn map kind state = IsStateOf kind state

-- the record is within its bounds, has this id, and is inside the arena where it is a player's
pub record IsValidRecord (map : MapView) (id : ℕ) (r : Rec) : Type 0 where
  pub is_record : IsRecord r
  pub own_id : r.id ≡ id
  pub state : IsStateOn map r.kind r.state
  pub inside : r.kind ≡ Player → contains map.bounds (body_of r) ≡ true

-- the records, each at the place of its id, are those of a valid world
-- Here and not below, since a record's state belongs to its kind and its map line.
pub record IsValidWorld (map : MapView) (records : List (Option Rec)) : Type 0 where
  pub each : (id : ℕ) (r : Rec) → slice_index_or records id None ≡ Some r → IsValidRecord map id r
  pub things : (id : ℕ) → 64 ≤ id
      → IsThing map (find (λ thing. thing.id == id) (entities_of map)) (slice_index_or records id None)

-- the world in which the things of the map are live, each at its id and as at the start, and nothing else is
abbrev pub IsOpeningWorld : MapView → List (Option Rec) → Type 0
IsOpeningWorld map records =
    (id : ℕ) → slice_index_or records id None ≡ find (λ thing. thing.id == id) (entities_of map)

-- no player's body overlaps a wall or a block, and no bodies of two live solids overlap
pub record AreClear (map : MapView) (records : List (Option Rec)) : Type 0 where
  pub of_the_map : (id : ℕ) (r : Rec) → slice_index_or records id None ≡ Some r → r.kind ≡ Player
      → is_blocked (body_of r) (solids_of map) ≡ false
  pub of_each_other : (i j : ℕ) (r s : Rec) → slice_index_or records i None ≡ Some r
      → slice_index_or records j None ≡ Some s → is_solid r.kind ≡ true → is_solid s.kind ≡ true → i ≢ j
      → overlaps (body_of r) (body_of s) ≡ false
