-- How far a move goes: the slide, or the stairs where they lead farther.
use Rattle.std.specs.Prelude.{ℕ, ◌+◌, ◌*◌, nat_lt, Bool, ◌&&◌, if◌then◌else◌, List, pos, neg_ℤ, unsigned_abs}
use Rattle.arena_geo.specs.declared.vec3.Vec3.{Vec3}
use Rattle.arena_geo.specs.Vectors.{plus}
use Rattle.arena_geo.specs.Bounds.{Bounds}
use Rattle.arena_geo.specs.Boxes.{box_moved_by, is_blocked}
use Rattle.box_trace.specs.Steps.{shift_at}
use Rattle.box_trace.specs.Traces.{trace_of}
use Rattle.slide_move.specs.Slides.{slide_of}
use Rattle.player_move.specs.declared.walk.Walked.{Walked}

-- so far up
abbrev pub upwards : ℕ → Vec3
upwards height = record { x = pos 0; y = pos 0; z = pos height }

-- so far down
abbrev pub downwards : ℕ → Vec3
downwards height = record { x = pos 0; y = pos 0; z = neg_ℤ (pos height) }

-- the velocity over the ground
abbrev pub level : Vec3 → Vec3
level vel = record { x = vel.x; y = vel.y; z = pos 0 }

-- the body is on the ground: moved down by 1 it overlaps a solid
unfoldable pub ground_of : Bounds → List Bounds → Bool
ground_of body solids = is_blocked (box_moved_by body (downwards 1)) solids

-- how far a body goes this way before a solid stops it
abbrev pub way_of : Bounds → Vec3 → List Bounds → Vec3
way_of body way solids = shift_at way (trace_of body way solids).steps

-- up by 4,608 sub-units, the height of a stair, along the level, and down by as many steps as the trace up made
unfoldable pub stairs_of : Bounds → Vec3 → ℕ → List Bounds → Walked
stairs_of body vel ms solids =
    let steps = (trace_of body (upwards 4608) solids).steps in
    let up = shift_at (upwards 4608) steps in
    let along = slide_of (box_moved_by body up) (level vel) ms solids in
    let down = way_of (box_moved_by body (plus up along.shift)) (downwards steps) solids in
    record { shift = plus (plus up along.shift) down; vel = level along.vel }

-- the square of the distance over the ground
abbrev pub flat_square : Vec3 → ℕ
flat_square shift = unsigned_abs shift.x * unsigned_abs shift.x + unsigned_abs shift.y * unsigned_abs shift.y

-- the first leads strictly farther over the ground
abbrev pub goes_farther : Vec3 → Vec3 → Bool
goes_farther shift other = nat_lt (flat_square other) (flat_square shift)

-- the stairs are taken in place of this slide: they lead strictly farther, to a place on the ground
abbrev pub are_taken : Bounds → Vec3 → Vec3 → List Bounds → Bool
are_taken body stairs plain solids = goes_farther stairs plain && ground_of (box_moved_by body stairs) solids

-- the slide, or the stairs where a body that walks runs into a solid on x or y and they are taken
unfoldable pub walk_of : Bool → Bounds → Vec3 → ℕ → List Bounds → Walked
walk_of walks body vel ms solids =
    let plain = slide_of body vel ms solids in
    let stairs = stairs_of body vel ms solids in
    if walks && plain.side && are_taken body stairs.shift plain.shift solids
    then stairs
    else record { shift = plain.shift; vel = plain.vel }
