-- The things of a map: what each line of an item, a teleporter, a goal or a lift gives.
use Rattle.std.specs.Prelude.{ℕ, ◌+◌, List, [], ◌∷◌, Option, Some, None}
use Rattle.arena_geo.specs.declared.vec3.Vec3.{Vec3}
use Rattle.arena_geo.specs.Vectors.{zero_vector, minus}
use Rattle.entity_recs.specs.declared.kind.Kind.{Kind}
use Rattle.entity_recs.specs.declared.kind.Kind.TheVariants as kinds
use Rattle.entity_recs.specs.declared.rec.Rec.{Rec}
use Rattle.entity_recs.specs.declared.bodies.TheConstants.{ITEM_MINS, ITEM_MAXS}
use Rattle.entity_recs.specs.Worlds.{nobody}
use Rattle.arena_map.specs.declared.lift.Lift as lifts
use Rattle.arena_map.specs.declared.map_line.MapLine.{MapLine}
use Rattle.arena_map.specs.declared.map_line.MapLine.TheVariants.{Arena, Block, Spawn, Item, Teleport, Goal, Lift, Depth, Shots, Blocks}

-- a thing at the start: at rest, with nothing, in state 0
abbrev pub thing_at_rest : ℕ → Kind → Vec3 → Vec3 → Vec3 → Rec
thing_at_rest id kind origin mins maxs = record {
  id = id;
  kind = kind;
  origin = origin;
  mins = mins;
  maxs = maxs;
  vel = zero_vector;
  flags = 0;
  ammo = 0;
  carry = 0;
  score = 0;
  seq = 0;
  state = 0;
}

-- a box of the map: its origin is its low corner
abbrev pub box_at_rest : ℕ → Kind → Vec3 → Vec3 → Rec
box_at_rest id kind lo hi = thing_at_rest id kind lo zero_vector (minus hi lo)

-- the record at the start of a line's thing, with this id; a lift is at its lowest place. The other lines give none
abbrev pub record_of : ℕ → MapLine → Rec
record_of id (Arena lo hi) = nobody
record_of id (Block lo hi) = nobody
record_of id (Spawn at) = nobody
record_of id (Item at kind delay) = thing_at_rest id kind at ITEM_MINS ITEM_MAXS
record_of id (Teleport lo hi dest) = box_at_rest id kinds.Teleporter lo hi
record_of id (Goal lo hi) = box_at_rest id kinds.Goal lo hi
record_of id (Lift lo hi rise speed) = box_at_rest id kinds.Lift lo hi
record_of id (Depth depth) = nobody
record_of id Shots = nobody
record_of id (Blocks most) = nobody

-- the records of things, with ids from this one up
abbrev pub records_from : ℕ → List MapLine → List Rec
records_from id [] = []
records_from id (line ∷ lines) = record_of id line ∷ records_from (id + 1) lines

-- where a teleporter moves players
abbrev pub dest_in : MapLine → Option Vec3
dest_in (Teleport lo hi dest) = Some dest
dest_in _ = None

-- how many frames an item stays away
abbrev pub delay_in : MapLine → Option ℕ
delay_in (Item at kind delay) = Some delay
delay_in _ = None

-- the data of a lift
abbrev pub lift_data : MapLine → Option lifts.Lift
lift_data (Lift lo hi rise speed) = Some (record { low = lo.z; rise = rise; speed = speed })
lift_data _ = None
