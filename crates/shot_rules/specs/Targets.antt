-- What a shot meets first: its box goes along the way like any other body, and the first solid that stops it is a wall, a
-- block, or a live solid.
use Rattle.std.specs.Prelude.{ℕ, ◌+◌, ◌==◌, Bool, ◌&&◌, if◌then◌else◌, List, ◌++◌, find, Option, Some, None, ℤ, pos, ◌*ℤ◌, nat_lt}
use Rattle.std.specs.Int.{bit_at}
use Rattle.arena_geo.specs.declared.vec3.Vec3.{Vec3}
use Rattle.arena_geo.specs.Vectors.{vector}
use Rattle.arena_geo.specs.Bounds.{Bounds, bounds}
use Rattle.arena_geo.specs.Boxes.{overlaps, is_blocked, box_grown_by, box_moved_by, hull}
use Rattle.entity_recs.specs.declared.rec.Rec.{Rec}
use Rattle.entity_recs.specs.Kinds.{is_solid}
use Rattle.entity_recs.specs.Bodies.{body_of}
use Rattle.box_trace.specs.Steps.{body_at}
use Rattle.box_trace.specs.Traces.{trace_of}
use Rattle.speed_rules.specs.declared.constants.TheConstants.{UNIT}
use Rattle.speed_rules.specs.Measures.{scaled_part}
use Rattle.speed_rules.specs.Wishes.{wish_length}
use Rattle.trigger_rules.specs.Touching.{bodies_of_solids}
use Rattle.shot_rules.specs.declared.numbers.TheConstants.{FIRE, HALF_WIDTH, RANGE}

-- this bit is set
abbrev pub is_set : ℕ → ℕ → Bool
is_set bits bit = bit_at bits bit == 1

-- the box of a shot from this origin
abbrev pub shot_box : Vec3 → Bounds
shot_box origin = box_grown_by (bounds origin origin) (vector HALF_WIDTH HALF_WIDTH HALF_WIDTH)

-- how far a shot goes on an axis, of a wish there in units a second and the length of the whole wish
abbrev pub range_on : ℤ → ℕ → ℤ
range_on wish len = scaled_part (wish *ℤ UNIT) RANGE len

-- there is a wish to go somewhere
abbrev pub has_aim : ℤ → ℤ → Bool
has_aim wish_x wish_y = nat_lt 0 (wish_length wish_x wish_y)

-- the way of a shot: along the wish, over the ground
abbrev pub way_along : ℤ → ℤ → Vec3
way_along wish_x wish_y =
    let len = wish_length wish_x wish_y in vector (range_on wish_x len) (range_on wish_y len) (pos 0)

-- it, if there is a wish
abbrev pub way_if_any : ℤ → ℤ → Option Vec3
way_if_any wish_x wish_y = if has_aim wish_x wish_y then Some (way_along wish_x wish_y) else None

-- where a shot goes: its box at the start, its box at the end of its way, and all between
abbrev pub shot_range : Vec3 → Vec3 → Bounds
shot_range origin way = hull (shot_box origin) (box_moved_by (shot_box origin) way)

-- where the shot from this origin may go, with these buttons and this wish, if one is asked for
abbrev pub range_if_any : Vec3 → ℕ → ℤ → ℤ → Option Bounds
range_if_any origin buttons wish_x wish_y =
    if is_set buttons FIRE && has_aim wish_x wish_y then Some (shot_range origin (way_along wish_x wish_y)) else None

-- the record is a solid whose body overlaps this box
abbrev pub is_in_way : Bounds → Rec → Bool
is_in_way b r = is_solid r.kind && overlaps b (body_of r)

-- the solid among these records that stops a box where it is now: none where a wall or a block does, since those come
-- first, and else the first in the order of the records
abbrev pub stopper_at : Bounds → List Bounds → List Rec → Option Rec
stopper_at b fixed near = if is_blocked b fixed then None else find (is_in_way b) near

-- the solid among these records that a box meets first on its way: none where it meets nothing, or a wall or a block
-- By the step at which the trace stops, and not by the solid's place in the list, so it doesn't change when solids
-- that are elsewhere are left out.
unfoldable pub target_of : Bounds → Vec3 → List Bounds → List Rec → Option Rec
target_of body way fixed near =
    let hit = trace_of body way (fixed ++ bodies_of_solids near) in
    if hit.whole then None else stopper_at (body_at body way (hit.steps + 1)) fixed near
