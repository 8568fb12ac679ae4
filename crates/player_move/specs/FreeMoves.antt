-- What a move is where nothing stops it, in numbers.
use Rattle.std.specs.Prelude.{◌≡◌, ◌≢◌, ℕ, ◌+◌, ◌*◌, ◌%◌, ◌==◌, ◌≤◌, true, false, List, ℤ, pos, ◌+ℤ◌, ◌*ℤ◌, int_div}
use Rattle.std.specs.Prelude.{unsigned_abs}
use Rattle.arena_geo.specs.declared.vec3.Vec3.{Vec3}
use Rattle.arena_geo.specs.Vectors.{IsNear, vector}
use Rattle.arena_geo.specs.Roots.{IsRoot}
use Rattle.arena_geo.specs.Bounds.{Bounds}
use Rattle.box_trace.specs.Traces.{IsFreeWay}
use Rattle.slide_move.specs.FreeWays.{way_in}
use Rattle.entity_recs.specs.declared.rec.Rec.{Rec}
use Rattle.entity_recs.specs.Bodies.{body_of}
use Rattle.speed_rules.specs.Rules.{velocity_of}
use Rattle.speed_rules.specs.Together.{z_after_fall, z_after_jump, IsSlowed}
use Rattle.player_move.specs.declared.moved.Moved.{Moved}
use Rattle.player_move.specs.Intents.{Intent}
use Rattle.player_move.specs.Walks.{ground_of}
use Rattle.player_move.specs.Moves.{move_of}

-- a part of a place, after it went at this speed for so many milliseconds: the product by 1,000, cut toward 0
abbrev pub gone : ℤ → ℤ → ℕ → ℤ
gone from speed ms = from +ℤ int_div (speed *ℤ pos ms) (pos 1000)

-- the move goes at this velocity, on each axis, and keeps it
pub record GoesAt (vel : Vec3) (ms : ℕ) (me : Rec) (moved : Moved) : Type 0 where
  pub x : moved.origin.x ≡ gone me.origin.x vel.x ms
  pub y : moved.origin.y ≡ gone me.origin.y vel.y ms
  pub z : moved.origin.z ≡ gone me.origin.z vel.z ms
  pub vel_is : moved.vel ≡ vel

-- where the way at this velocity is free, the move goes at it
abbrev pub GoesFreelyAt : Vec3 → Rec → Intent → List Bounds → Type 0
GoesFreelyAt vel me cmd solids =
    IsFreeWay (body_of me) (way_in vel cmd.ms) solids → GoesAt vel cmd.ms me (move_of me cmd solids)

-- a move of which the whole way is free goes at the velocity that the rules of speed give, by the ground test at the
-- start, bit 0 of the buttons, the record's velocity, the wish and the time
abbrev pub FreeMovesGoByTheRules : Type 0
FreeMovesGoByTheRules =
    (me : Rec) (cmd : Intent) (solids : List Bounds)
    → GoesFreelyAt
    (velocity_of (ground_of (body_of me) solids) (cmd.buttons % 2 == 1) me.vel cmd.wish_x cmd.wish_y cmd.ms)
    me cmd solids

-- a record is no faster than 512,000 on an axis, and its command takes 50 milliseconds at most and wishes nothing
pub record WishesNothing (me : Rec) (cmd : Intent) : Type 0 where
  pub near : IsNear 512000 me.vel
  pub brief : cmd.ms ≤ 50
  pub wish_x : cmd.wish_x ≡ pos 0
  pub wish_y : cmd.wish_y ≡ pos 0

-- a player in the air that wishes nothing goes on over the ground, and falls
abbrev pub FreePlayersFall : Type 0
FreePlayersFall =
    (me : Rec) (cmd : Intent) (solids : List Bounds) → WishesNothing me cmd → ground_of (body_of me) solids ≡ false
    → GoesFreelyAt (vector me.vel.x me.vel.y (z_after_fall me.vel.z cmd.ms)) me cmd solids

-- a player on the ground that jumps, and wishes nothing, goes on over the ground, and is launched
abbrev pub FreePlayersJump : Type 0
FreePlayersJump =
    (me : Rec) (cmd : Intent) (solids : List Bounds) → WishesNothing me cmd → ground_of (body_of me) solids ≡ true
    → cmd.buttons % 2 ≡ 1
    → GoesFreelyAt (vector me.vel.x me.vel.y (z_after_jump me.vel.z cmd.ms)) me cmd solids

-- a player on the ground that neither jumps nor wishes anything goes on at what friction leaves
abbrev pub FreePlayersSlowDown : Type 0
FreePlayersSlowDown =
    (me : Rec) (cmd : Intent) (solids : List Bounds) (speed : ℕ) (slower : Vec3) → WishesNothing me cmd
    → ground_of (body_of me) solids ≡ true → cmd.buttons % 2 ≢ 1
    → IsRoot (unsigned_abs me.vel.x * unsigned_abs me.vel.x + unsigned_abs me.vel.y * unsigned_abs me.vel.y) speed
    → IsSlowed speed cmd.ms me.vel slower
    → GoesFreelyAt slower me cmd solids
