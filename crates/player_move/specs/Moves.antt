-- What a player's move is.
use Rattle.std.specs.Prelude.{Bool, List}
use Rattle.arena_geo.specs.declared.vec3.Vec3.{Vec3}
use Rattle.arena_geo.specs.Vectors.{plus}
use Rattle.arena_geo.specs.Bounds.{Bounds}
use Rattle.entity_recs.specs.declared.rec.Rec.{Rec}
use Rattle.player_move.specs.Intents.{Intent}
use Rattle.entity_recs.specs.Bodies.{box_at_origin, body_of}
use Rattle.player_move.specs.declared.moved.Moved.{Moved}
use Rattle.player_move.specs.declared.walk.Walked.{Walked}
use Rattle.player_move.specs.Velocities.{walks, velocity_after}
use Rattle.player_move.specs.Walks.{ground_of, walk_of}

-- how a record moves that begins on the ground or not
abbrev pub walk_from : Bool → Rec → Intent → List Bounds → Walked
walk_from on_ground me cmd solids =
    walk_of (walks on_ground cmd) (body_of me) (velocity_after on_ground me cmd) cmd.ms solids

-- the body of a record after a move
abbrev pub body_after : Rec → Moved → Bounds
body_after me moved = box_at_origin moved.origin me.mins me.maxs

-- what a record does that walks so from its origin, and began on the ground or not
abbrev pub moved_by : (origin : Vec3) (walk : Walked) (ground : Bool) → Moved
moved_by origin walk on_ground = record { origin = plus origin walk.shift; vel = walk.vel; ground = on_ground }

-- the move of a record among these solids
unfoldable pub move_of : Rec → Intent → List Bounds → Moved
move_of me cmd solids =
    let on_ground = ground_of (body_of me) solids in
    moved_by me.origin (walk_from on_ground me cmd solids) on_ground
