-- The velocity of a move: the rules of speed, by what the player's command says.
use Rattle.std.specs.Prelude.{◌+◌, ◌≤◌, ◌%◌, ◌==◌, Bool, true, false, ◌&&◌, not, unsigned_abs}
use Rattle.arena_geo.specs.declared.vec3.Vec3.{Vec3}
use Rattle.entity_recs.specs.declared.rec.Rec.{Rec}
use Rattle.player_move.specs.Intents.{Intent}
use Rattle.speed_rules.specs.declared.constants.TheConstants.{JUMP_SPEED}
use Rattle.speed_rules.specs.Measures.{greatest_velocity}
use Rattle.speed_rules.specs.Rules.{friction_of, accelerated_velocity, gravity_of, velocity_before_clamp, velocity_of}

-- the jump button is pressed
abbrev pub jumps : Intent → Bool
jumps cmd = cmd.buttons % 2 == 1

-- the player walks: it is on the ground and doesn't jump; else it is in the air
abbrev pub walks : Bool → Intent → Bool
walks on_ground cmd = on_ground && not (jumps cmd)

-- the velocity of a player that walks, before the clamp
abbrev pub velocity_when_walking : Vec3 → Intent → Vec3
velocity_when_walking vel cmd = accelerated_velocity (friction_of vel cmd.ms) cmd.wish_x cmd.wish_y cmd.ms true

-- the velocity of a player in the air, before the clamp
abbrev pub velocity_when_flying : Vec3 → Intent → Vec3
velocity_when_flying vel cmd = gravity_of (accelerated_velocity vel cmd.wish_x cmd.wish_y cmd.ms false) cmd.ms

-- the velocity before the clamp of a move that begins on the ground or not
abbrev pub unclamped_after : Bool → Rec → Intent → Vec3
unclamped_after on_ground me cmd = velocity_before_clamp on_ground (jumps cmd) me.vel cmd.wish_x cmd.wish_y cmd.ms

-- the velocity with which a move slides that begins on the ground or not
unfoldable pub velocity_after : Bool → Rec → Intent → Vec3
velocity_after on_ground me cmd = velocity_of on_ground (jumps cmd) me.vel cmd.wish_x cmd.wish_y cmd.ms

-- a record's velocity, or that of one that jumps
pub record IsTakeOff (vel : Vec3) : Type 0 where
  pub x : unsigned_abs vel.x ≤ greatest_velocity
  pub y : unsigned_abs vel.y ≤ greatest_velocity
  pub z : unsigned_abs vel.z ≤ greatest_velocity + unsigned_abs JUMP_SPEED
