-- The frames in which a bot walks along a way, a move in each.
use Rattle.std.specs.Prelude.{ℕ, ◌+◌, List, [], ◌∷◌, ◌++◌, map, ℤ, pos, ◌-ℤ◌, ◌*ℤ◌, int_div, slice_index_or}
use Rattle.std.specs.List.{range_with_len}
use Rattle.std.specs.Int.{div_ceil}
use Rattle.arena_geo.specs.declared.vec3.Vec3.{Vec3}
use Rattle.arena_geo.specs.Vectors.{zero_vector}
use Rattle.packet_read.specs.declared.move_packet.MovePacket.{MovePacket}
use Rattle.packet_read.specs.declared.packet.Packet.{Packet}
use Rattle.packet_read.specs.declared.packet.Packet.TheVariants.{Join, Move}
use Rattle.packet_read.specs.Spelling.{spelling}
use Rattle.packet_read.specs.declared.arrival.Arrival.{Arrival}
use Rattle.arena_map.specs.Maps.{MapView}
use Rattle.bot_ways.specs.Edges.{distance}

-- the place of a waypoint
abbrev pub waypoint_point : MapView → ℕ → Vec3
waypoint_point m waypoint = slice_index_or m.spawns waypoint zero_vector

-- the places of the waypoints of a walk
abbrev pub waypoint_points : MapView → List ℕ → List Vec3
waypoint_points m way = map (waypoint_point m) way

-- the length of the walk through these places
abbrev pub length_through : List Vec3 → ℕ
length_through [] = 0
length_through (a ∷ []) = 0
length_through (a ∷ b ∷ more) = distance a b + length_through (b ∷ more)

-- a wish along an axis: 320 units of Quake a second where the part is the whole length, and else its share of that
abbrev pub wish_along : ℤ → ℕ → ℤ
wish_along part whole = int_div (part *ℤ pos 320) (pos whole)

-- the move with this number from one place towards another, of 50 milliseconds and without a jump
abbrev pub move_towards : ℕ → Vec3 → Vec3 → MovePacket
move_towards seq a b = record {
  seq = seq;
  ms = 50;
  wish_x = wish_along (b.x -ℤ a.x) (distance a b);
  wish_y = wish_along (b.y -ℤ a.y) (distance a b);
  buttons = 0;
}

-- how many moves there are from one place to another: as many as stretches of 4,096 cover the distance
abbrev pub moves_between : Vec3 → Vec3 → ℕ
moves_between a b = div_ceil (distance a b) 4096

-- a packet of the bot, which sends from port 1
abbrev pub bot_arrival : Packet → Arrival
bot_arrival packet = record { port = 1; bytes = spelling packet }

-- a frame of this packet alone
abbrev pub frame_of : Packet → List Arrival
frame_of packet = bot_arrival packet ∷ []

-- a frame of the move with this number
abbrev pub move_frame : Vec3 → Vec3 → ℕ → List Arrival
move_frame a b seq = frame_of (Move (move_towards seq a b))

-- the frames from one place to another, where the first move has this number
abbrev pub frames_between : ℕ → Vec3 → Vec3 → List (List Arrival)
frames_between seq a b = map (move_frame a b) (range_with_len seq (moves_between a b))

-- the frames of the walk through these places, where the first move has this number
abbrev pub frames_through : ℕ → List Vec3 → List (List Arrival)
frames_through seq [] = []
frames_through seq (a ∷ []) = []
frames_through seq (a ∷ b ∷ more) = frames_between seq a b ++ frames_through (seq + moves_between a b) (b ∷ more)

-- the frames of the recording: the bot joins, and then walks
abbrev pub bot_frames : MapView → List ℕ → List (List Arrival)
bot_frames m way = frame_of Join ∷ frames_through 1 (waypoint_points m way)
