-- What holds of all maps, edges, lengths, ways and texts of plans.
use Rattle.std.specs.Prelude.{◌≡◌, ◌≢◌, ◌↔◌, ℕ, ◌+◌, ◌*◌, ◌^◌, ◌<◌, ◌≤◌, max, false, List, length, Option, Some, slice_get, ℤ, ◌-ℤ◌, unsigned_abs, Ok}
use Rattle.arena_geo.specs.declared.vec3.Vec3.{Vec3}
use Rattle.arena_geo.specs.Vectors.{minus}
use Rattle.arena_geo.specs.Boxes.{is_blocked}
use Rattle.box_trace.specs.Traces.{IsFreeWay}
use Rattle.entity_recs.specs.Bodies.{player_body}
use Rattle.arena_map.specs.Maps.{MapView, IsMap, solids_of}
use Rattle.packet_read.specs.declared.packet.Packet.TheVariants.{Join, Move}
use Rattle.packet_read.specs.Reading.{reading}
use Rattle.demo_lines.specs.Laws.{IsTextOf}
use Rattle.bot_ways.specs.declared.plan.Plan.{Plan}
use Rattle.bot_ways.specs.declared.writing.TheConstants.{MOST_PLAN_BYTES}
use Rattle.bot_ways.specs.Edges.{distance, edge}
use Rattle.bot_ways.specs.Walks.{IsWalk, HasLeast}
use Rattle.bot_ways.specs.Ways.{IsCertificate, IsWay}
use Rattle.bot_ways.specs.Moves.{waypoint_point, waypoint_points, length_through, wish_along, move_towards, moves_between, bot_arrival, bot_frames}
use Rattle.bot_ways.specs.PlanTexts.{IsPlan, as_written, least_line, plan_text}
use Rattle.bot_ways.specs.Rooms.{moves_on, room_of_least, room_of_plan}

-- an edge of length n leads from u to v: they have one height, are apart, and at most 65,536 from each other on each axis,
-- no wall or block overlaps a player's body at u or at a step of its way to v, and n is the greater of the distances on
-- x and y
pub record IsEdge (map : MapView) (u v n : ℕ) : Type 0 where
  pub from : Vec3
  pub to : Vec3
  pub begins : slice_get map.spawns u ≡ Some from
  pub ends : slice_get map.spawns v ≡ Some to
  pub level : from.z ≡ to.z
  pub apart : from ≢ to
  pub x : unsigned_abs (to.x -ℤ from.x) ≤ 65536
  pub y : unsigned_abs (to.y -ℤ from.y) ≤ 65536
  pub start : is_blocked (player_body from) (solids_of map) ≡ false
  pub free : IsFreeWay (player_body from) (minus to from) (solids_of map)
  pub length : n ≡ max (unsigned_abs (to.x -ℤ from.x)) (unsigned_abs (to.y -ℤ from.y))

-- so it is with each edge, and with no others
abbrev pub EdgesAreKnown : Type 0
EdgesAreKnown = (map : MapView) (u v n : ℕ) → (edge map u v ≡ Some n) ↔ IsEdge map u v n

-- lengths with a certificate are the least ones
abbrev pub CertificatesAreLeast : Type 0
CertificatesAreLeast = (map : MapView) (least : List (Option ℕ)) → IsCertificate map least → HasLeast map least

-- there is one way to each waypoint
abbrev pub WaysAreUnique : Type 0
WaysAreUnique =
    (map : MapView) (least : List (Option ℕ)) (v : ℕ) (one other : List ℕ) → IsCertificate map least
    → IsWay map least v one → IsWay map least v other → one ≡ other

-- what is written of a plan is, up to its line `end`, a recording of the map in which the bot joins and walks along the way:
-- it has no fault, and gives this map, but for a line that names the depth or the number of blocks which a map has anyway,
-- and these frames
abbrev pub PlansAreRecordings : Type 0
PlansAreRecordings =
    (map : MapView) (plan : Plan) → IsMap map → IsPlan map plan
    → IsTextOf (as_written map) (bot_frames map plan.way) (plan_text map plan)

-- the length that is written of a way is that of its walk
abbrev pub LengthsAreWritten : Type 0
LengthsAreWritten =
    (map : MapView) (u v n : ℕ) (way : List ℕ) → IsWalk map u v way n → length_through (waypoint_points map way) ≡ n

-- from one place to another there are as few moves as cover the distance by 4,096 each; and the packets are read as the
-- join and as these moves, whose wishes are at most 320
pub record MovesAreKnown : Type 0 where
  pub enough : (a b : Vec3) → distance a b ≤ 4096 * moves_between a b
  pub fewest : (a b : Vec3) (n : ℕ) → distance a b ≤ 4096 * n → moves_between a b ≤ n
  pub join : reading (bot_arrival Join).bytes ≡ Ok Join
  pub moves : (seq : ℕ) (a b : Vec3) → seq < 2 ^ 32 → 1 ≤ distance a b
      → reading (bot_arrival (Move (move_towards seq a b))).bytes ≡ Ok (Move (move_towards seq a b))
  pub wishes : (part : ℤ) (whole : ℕ) → 1 ≤ whole → unsigned_abs part ≤ whole → unsigned_abs (wish_along part whole) ≤ 320

-- what is written of a plan has at most as many bytes as its map, its moves and its waypoints need. An edge has at most 16
-- moves, so the way has at most 16 moves for each of its edges; so with the most of each the text has at most 307,749. The
-- line of the least lengths alone has at most 6, and 8 for each waypoint
pub record PlanTextsAreBounded : Type 0 where
  pub texts : (map : MapView) (plan : Plan) → IsMap map → IsPlan map plan
      → length (plan_text map plan) ≤ room_of_plan map plan
  pub each : (map : MapView) (u v n : ℕ) → edge map u v ≡ Some n → moves_between (waypoint_point map u) (waypoint_point map v) ≤ 16
  pub moves : (map : MapView) (plan : Plan) → IsPlan map plan → moves_on map plan.way + 16 ≤ 16 * length plan.way
  pub least : (map : MapView) (least : List (Option ℕ)) → IsMap map → IsCertificate map least
      → length (least_line least) ≤ room_of_least map
  pub limit : MOST_PLAN_BYTES ≡ 307749
  pub longest : (map : MapView) (plan : Plan) → IsMap map → IsPlan map plan
      → length (plan_text map plan) ≤ MOST_PLAN_BYTES
