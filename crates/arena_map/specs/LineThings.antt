-- What each line of a map gives, in the numbers of the line: the record of its thing, and the data of the thing's id.
use Rattle.std.specs.Prelude.{◌≡◌, ◌⊎◌, ⊤, ℕ, ◌+◌, ◌<◌, ◌≤◌, true, false, List, [], ◌∷◌, ◌++◌, length, Option, Some, None}
use Rattle.std.specs.Prelude.{slice_get, pos}
use Rattle.arena_geo.specs.declared.vec3.Vec3.{Vec3}
use Rattle.arena_geo.specs.Vectors.{vector, plus}
use Rattle.arena_geo.specs.Bounds.{bounds}
use Rattle.entity_recs.specs.declared.kind.Kind.{Kind}
use Rattle.entity_recs.specs.declared.kind.Kind.TheVariants as kinds
use Rattle.entity_recs.specs.declared.rec.Rec.{Rec}
use Rattle.entity_recs.specs.Bodies.{body_of}
use Rattle.arena_map.specs.declared.lift.Lift as lifts
use Rattle.arena_map.specs.declared.map_line.MapLine.{MapLine}
use Rattle.arena_map.specs.declared.map_line.MapLine.TheVariants.{Arena, Block, Spawn, Item, Teleport, Goal, Lift, Depth, Shots, Blocks}
use Rattle.arena_map.specs.MapLines.{is_thing_line}
use Rattle.arena_map.specs.Maps.{MapView, entities_of, dest_of, delay_of, lift_of}
use Rattle.arena_map.specs.Rules.{with_line}

-- ---- the record of a thing

-- the record has this id and kind; its body is the box between these corners, of which the low one is its origin; it is
-- at rest, has nothing, and is in state 0
pub record IsThingBetween (id : ℕ) (kind : Kind) (lo hi : Vec3) (r : Rec) : Type 0 where
  pub id_is : r.id ≡ id
  pub kind_is : r.kind ≡ kind
  pub origin : r.origin ≡ lo
  pub mins : r.mins ≡ vector (pos 0) (pos 0) (pos 0)
  pub body : body_of r ≡ bounds lo hi
  pub vel : r.vel ≡ vector (pos 0) (pos 0) (pos 0)
  pub flags : r.flags ≡ 0
  pub ammo : r.ammo ≡ 0
  pub carry : r.carry ≡ 0
  pub score : r.score ≡ 0
  pub seq : r.seq ≡ 0
  pub state : r.state ≡ 0

-- the things at the start have such a record at this place
pub record HasThing (records : List Rec) (place id : ℕ) (kind : Kind) (lo hi : Vec3) : Type 0 where
  pub thing : Rec
  pub at : slice_get records place ≡ Some thing
  pub is : IsThingBetween id kind lo hi thing

-- ---- the data of an id

-- an id has this destination, this delay and these data of a lift, or none
pub record HasOnly (map : MapView) (id : ℕ) (dest : Option Vec3) (delay : Option ℕ) (lift : Option lifts.Lift)
    : Type 0 where
  pub dest_is : dest_of map id ≡ dest
  pub delay_is : delay_of map id ≡ delay
  pub lift_is : lift_of map id ≡ lift

-- ---- each line

-- the box of an item with this origin goes 8,192 far on x and y, and 14,336 up
abbrev pub item_end : Vec3 → Vec3
item_end at = plus at (vector (pos 8192) (pos 8192) (pos 14336))

-- the line gives a thing of its kind in its box, and the data of its numbers, to this id, at this place
abbrev pub GivesAs : MapView → ℕ → ℕ → MapLine → Type 0
GivesAs map place id (Arena lo hi) = ⊤
GivesAs map place id (Block lo hi) = ⊤
GivesAs map place id (Spawn at) = ⊤
GivesAs map place id (Item at kind delay) =
    HasThing (entities_of map) place id kind at (item_end at) × HasOnly map id None (Some delay) None
GivesAs map place id (Teleport lo hi dest) =
    HasThing (entities_of map) place id kinds.Teleporter lo hi × HasOnly map id (Some dest) None None
GivesAs map place id (Goal lo hi) =
    HasThing (entities_of map) place id kinds.Goal lo hi × HasOnly map id None None None
GivesAs map place id (Lift lo hi rise speed) =
    HasThing (entities_of map) place id kinds.Lift lo hi
    × HasOnly map id None None (Some (record { low = lo.z; rise = rise; speed = speed }))
GivesAs map place id (Depth depth) = ⊤
GivesAs map place id Shots = ⊤
GivesAs map place id (Blocks most) = ⊤

-- the line of a thing is put after those that the map has, and no other line changes them
pub record PutsThingsLast (map : MapView) (line : MapLine) : Type 0 where
  pub thing : is_thing_line line ≡ true → (with_line map line).things ≡ map.things ++ line ∷ []
  pub other : is_thing_line line ≡ false → (with_line map line).things ≡ map.things

-- the line at each place among those of things gives its thing, with the id that is 64 more than the place; there are no
-- other things, and no other id has data; and lines of things are put last
pub record LinesGiveTheirThings : Type 0 where
  pub each : (map : MapView) (place : ℕ) (line : MapLine) → slice_get map.things place ≡ Some line
      → GivesAs map place (64 + place) line
  pub count : (map : MapView) → length (entities_of map) ≡ length map.things
  pub other : (map : MapView) (id : ℕ) → (id < 64) ⊎ (64 + length map.things ≤ id) → HasOnly map id None None None
  pub last : (map : MapView) (line : MapLine) → PutsThingsLast map line
