-- The bounds of a record.
use Rattle.std.specs.Prelude.{◌≡◌, ℕ, ◌<◌, ◌≤◌, pos, ◌<ℤ◌}
use Rattle.arena_geo.specs.declared.vec3.Vec3.{Vec3}
use Rattle.arena_geo.specs.Vectors.{IsNear, plus}
use Rattle.entity_recs.specs.declared.limits.TheConstants.{IDS}
use Rattle.entity_recs.specs.declared.kind.Kind.{Kind}
use Rattle.entity_recs.specs.declared.kind.Kind.TheVariants.{Player, Ammo, Gem, Teleporter, Goal, Lift}
use Rattle.entity_recs.specs.declared.rec.Rec.{Rec}
use Rattle.entity_recs.specs.declared.bodies.TheConstants.{PLAYER_MINS, PLAYER_MAXS, ITEM_MINS, ITEM_MAXS}

-- the id of a thing of the map
pub record IsMapId (id : ℕ) : Type 0 where
  pub least : 64 ≤ id
  pub most : id < IDS

-- the ids of a kind: a slot for a player
abbrev pub IsIdOf : Kind → ℕ → Type 0
IsIdOf Player id = id < 64
IsIdOf _ id = IsMapId id

-- the two corners, seen from the origin, are these
pub record HasCorners (low high mins maxs : Vec3) : Type 0 where
  pub low_is : mins ≡ low
  pub high_is : maxs ≡ high

-- each part of v is above 0
pub record IsAboveZero (v : Vec3) : Type 0 where
  pub x : pos 0 <ℤ v.x
  pub y : pos 0 <ℤ v.y
  pub z : pos 0 <ℤ v.z

-- a box of the map: its origin is the low corner, it has a size, and its high corner is near enough
pub record IsMapBox (origin mins maxs : Vec3) : Type 0 where
  pub low_is : mins ≡ record { x = pos 0; y = pos 0; z = pos 0 }
  pub has_size : IsAboveZero maxs
  pub high : IsNear 1048576 (plus origin maxs)

-- the shapes of a kind: one for a player, one for every item, and a box of the map for the others
abbrev pub IsShapeOf : Kind → Vec3 → Vec3 → Vec3 → Type 0
IsShapeOf Player origin mins maxs = HasCorners PLAYER_MINS PLAYER_MAXS mins maxs
IsShapeOf Ammo origin mins maxs = HasCorners ITEM_MINS ITEM_MAXS mins maxs
IsShapeOf Gem origin mins maxs = HasCorners ITEM_MINS ITEM_MAXS mins maxs
IsShapeOf Teleporter origin mins maxs = IsMapBox origin mins maxs
IsShapeOf Goal origin mins maxs = IsMapBox origin mins maxs
IsShapeOf Lift origin mins maxs = IsMapBox origin mins maxs

-- a record within its bounds, whatever its state
-- The state is left out, since what it may be depends on the kind and on the map.
pub record IsRecord (r : Rec) : Type 0 where
  pub id : IsIdOf r.kind r.id
  pub origin : IsNear 1048576 r.origin
  pub shape : IsShapeOf r.kind r.origin r.mins r.maxs
  pub vel : IsNear 512000 r.vel
  pub flags : r.flags ≤ 3
  pub ammo : r.ammo ≤ 100
  pub carry : r.carry ≤ 8

-- the states of a kind where nobody shoots: any frame for an item, 0 or 1 for a lift, and 0 for the others
abbrev pub IsStateOf : Kind → ℕ → Type 0
IsStateOf Player state = state ≡ 0
IsStateOf Ammo state = Unit {0}
IsStateOf Gem state = Unit {0}
IsStateOf Teleporter state = state ≡ 0
IsStateOf Goal state = state ≡ 0
IsStateOf Lift state = state ≤ 1

-- the record with another state
abbrev pub with_state : Rec → ℕ → Rec
with_state r state = record r { state = state }
