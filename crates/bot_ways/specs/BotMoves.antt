-- Where a bot goes: along its way, each move towards the next waypoint.
use Rattle.std.specs.Prelude.{◌≡◌, ℕ, ◌+◌, ◌*◌, ◌<◌, ◌≤◌, max, List, [], ◌∷◌, ◌++◌, length, map, Some, slice_get, slice_index_or}
use Rattle.std.specs.Prelude.{ℤ, pos, ◌-ℤ◌, ◌≤ℤ◌, unsigned_abs}
use Rattle.arena_geo.specs.declared.vec3.Vec3.{Vec3}
use Rattle.arena_geo.specs.Vectors.{zero_vector}
use Rattle.packet_read.specs.declared.arrival.Arrival.{Arrival}
use Rattle.packet_read.specs.declared.move_packet.MovePacket.{MovePacket}
use Rattle.packet_read.specs.declared.packet.Packet.TheVariants.{Join, Move}
use Rattle.packet_read.specs.Spelling.{spelling}
use Rattle.arena_map.specs.Maps.{MapView}
use Rattle.bot_ways.specs.Moves.{bot_frames}

-- the wish is to 320 as the part is to the whole, cut toward 0; it lies on the side of 0 on which the part lies
pub record IsWishFor (part : ℤ) (whole : ℕ) (wish : ℤ) : Type 0 where
  pub least : unsigned_abs wish * whole ≤ 320 * unsigned_abs part
  pub most : 320 * unsigned_abs part < (unsigned_abs wish + 1) * whole
  pub stays_positive : pos 0 ≤ℤ part → pos 0 ≤ℤ wish
  pub stays_negative : part ≤ℤ pos 0 → wish ≤ℤ pos 0

-- how far one place is from another on x or y, whichever is farther
abbrev pub farther : Vec3 → Vec3 → ℕ
farther a b = max (unsigned_abs (b.x -ℤ a.x)) (unsigned_abs (b.y -ℤ a.y))

-- the move has this number, lasts 50 milliseconds, leads from the first place towards the second, and presses no button
pub record LeadsTowards (seq : ℕ) (a b : Vec3) (move : MovePacket) : Type 0 where
  pub seq_is : move.seq ≡ seq
  pub time : move.ms ≡ 50
  pub x : IsWishFor (b.x -ℤ a.x) (farther a b) move.wish_x
  pub y : IsWishFor (b.y -ℤ a.y) (farther a b) move.wish_y
  pub no_button : move.buttons ≡ 0

-- in the frame comes one packet, from port 1: such a move
pub record HasMoveTowards (seq : ℕ) (a b : Vec3) (frame : List Arrival) : Type 0 where
  pub move : MovePacket
  pub leads : LeadsTowards seq a b move
  pub alone : frame ≡ record { port = 1; bytes = spelling (Move move) } ∷ []

-- as few frames as cover the distance by 4,096 each, with moves from the first place towards the second, numbered from seq
pub record LeadFrom (seq : ℕ) (a b : Vec3) (frames : List (List Arrival)) : Type 0 where
  pub enough : farther a b ≤ 4096 * length frames
  pub fewest : (n : ℕ) → farther a b ≤ 4096 * n → length frames ≤ n
  pub each : (k : ℕ) (frame : List Arrival) → slice_get frames k ≡ Some frame → HasMoveTowards (seq + k) a b frame

-- frames that lead through these places, from each to the next, with moves numbered from seq
pub data LeadThrough : ℕ → List Vec3 → List (List Arrival) → Type 0 where
  nowhere : (seq : ℕ) → LeadThrough seq [] []
  there : (seq : ℕ) (a : Vec3) → LeadThrough seq (a ∷ []) []
  further : (seq : ℕ) (a b : Vec3) (more : List Vec3) (here rest : List (List Arrival))
      → LeadFrom seq a b here → LeadThrough (seq + length here) (b ∷ more) rest
      → LeadThrough seq (a ∷ b ∷ more) (here ++ rest)

-- the first frame has the join alone, from port 1, and those after it lead through the spawns of the way, numbered from 1
pub record LeadAlong (m : MapView) (way : List ℕ) (frames : List (List Arrival)) : Type 0 where
  pub moves : List (List Arrival)
  pub joins : frames ≡ (record { port = 1; bytes = spelling Join } ∷ []) ∷ moves
  pub lead : LeadThrough 1 (map (λ waypoint. slice_index_or m.spawns waypoint zero_vector) way) moves

-- so do the frames of each bot
abbrev pub BotsFollowTheirWays : Type 0
BotsFollowTheirWays = (m : MapView) (way : List ℕ) → LeadAlong m way (bot_frames m way)
