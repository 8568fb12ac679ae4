-- The whole move: what it is, and how far it comes.
use Rattle.std.proofs.Common.{◌≡◌, ℕ, ◌*◌, ◌/◌, ◌≤◌, Bool, List, ℤ, ◌+ℤ◌, ◌-ℤ◌, unsigned_abs, ap, ◌∙◌, arith}
use Rattle.std.proofs.lemmas.Nat.{mul-le}
use Rattle.std.proofs.lemmas.Int.{ints}
use Rattle.arena_geo.specs.declared.vec3.Vec3.{Vec3}
use Rattle.arena_geo.specs.Vectors.{IsNear, plus}
use Rattle.arena_geo.specs.Bounds.{Bounds, IsBox}
use Rattle.arena_geo.specs.Boxes.{box_moved_by}
use Rattle.box_trace.proofs.Parts.{unsigned_abs-part_at}
use Rattle.entity_recs.specs.declared.rec.Rec.{Rec}
use Rattle.player_move.specs.Intents.{Intent}
use Rattle.entity_recs.specs.Records.{IsRecord}
use Rattle.entity_recs.specs.Bodies.{box_at_origin, body_of}
use Rattle.entity_recs.proofs.Standing.{IsRoomy, shape_is_roomy}
use Rattle.slide_move.specs.Displacements.{distance}
use Rattle.player_move.specs.declared.walk.Walked.{Walked}
use Rattle.speed_rules.specs.Rules.{velocity_before_clamp, clamped_velocity}
use Rattle.player_move.specs.Ranges.{IsWithin}
use Rattle.player_move.specs.Velocities.{jumps, walks, velocity_after}
use Rattle.player_move.specs.Walks.{ground_of, walk_of}
use Rattle.player_move.specs.Moves.{move_of}
use Rattle.player_move.specs.Laws.{IsReached, MoveReach}
use Rattle.player_move.proofs.Rooms.{IsNear-plus}
use Rattle.player_move.proofs.Speeds.{IsFast, velocity_is_fast}
use Rattle.player_move.proofs.Reaching.{IsWalk, walk_is_walk}

-- ---- the room of a record
is_roomy : (me : Rec) → IsRecord me → IsRoomy (body_of me)
is_roomy me is = shape_is_roomy me.kind me.origin me.mins me.maxs is.origin is.shape

pub room_of_record : (me : Rec) (body : Bounds) → IsRecord me → body ≡ body_of me → IsWithin 2000000 body
room_of_record me body is body_is =
    let roomy = is_roomy me is in
    rw body_is (record {
      lo = record { x = omega (arith, roomy.low.x); y = omega (arith, roomy.low.y); z = omega (arith, roomy.low.z) };
      hi = record { x = omega (arith, roomy.high.x); y = omega (arith, roomy.high.y); z = omega (arith, roomy.high.z) };
    })

-- ---- the body after a move
swap : (a b c : ℤ) → (a +ℤ b) +ℤ c ≡ (a +ℤ c) +ℤ b
swap a b c = omega (arith, ints)

plus-swap : (u v w : Vec3) → plus (plus u v) w ≡ plus (plus u w) v
plus-swap u v w = λ i. record { x = swap u.x v.x w.x i; y = swap u.y v.y w.y i; z = swap u.z v.z w.z i }

-- to move a body is to move its origin
pub standing-moved : (origin shift mins maxs : Vec3) → box_at_origin (plus origin shift) mins maxs ≡ box_moved_by (box_at_origin origin mins maxs) shift
standing-moved origin shift mins maxs =
    λ i. record { lo = plus-swap origin shift mins i; hi = plus-swap origin shift maxs i }

moved_is_box : (body : Bounds) (shift : Vec3) → IsRoomy body → IsNear 25600 shift → IsBox (box_moved_by body shift)
moved_is_box body shift roomy near = record {
  ordered = record {
    x = omega (arith, ints, roomy.ordered.x);
    y = omega (arith, ints, roomy.ordered.y);
    z = omega (arith, ints, roomy.ordered.z);
  };
  in_range = record {
    lo = IsNear-plus 1062912 25600 2097152 body.lo shift (omega arith) roomy.low near;
    hi = IsNear-plus 1062912 25600 2097152 body.hi shift (omega arith) roomy.high near;
  };
}

pub body_is_box : (me : Rec) (origin shift : Vec3) → IsRecord me → origin ≡ plus me.origin shift → IsNear 25600 shift → IsBox (box_at_origin origin me.mins me.maxs)
body_is_box me origin shift is origin_is near =
    rw (origin_is, standing-moved me.origin shift me.mins me.maxs) (moved_is_box (body_of me) shift (is_roomy me is) near)

pub origin_is_near : (me : Rec) (origin shift : Vec3) → IsRecord me → origin ≡ plus me.origin shift → IsNear 25600 shift → IsNear 1074176 origin
origin_is_near me origin shift is origin_is near =
    rw origin_is (IsNear-plus 1048576 25600 1074176 me.origin shift (omega arith) is.origin near)

-- ---- the move out of its steps
pub velocity_by_steps : (on_ground : Bool) (me : Rec) (cmd : Intent) (entering vel : Vec3) → entering ≡ velocity_before_clamp on_ground (jumps cmd) me.vel cmd.wish_x cmd.wish_y cmd.ms → vel ≡ clamped_velocity entering → vel ≡ velocity_after on_ground me cmd
unfolding velocity_after
velocity_by_steps on_ground me cmd entering vel entering_is vel_is = vel_is ∙ ap clamped_velocity entering_is

pub move_by_steps : (me : Rec) (cmd : Intent) (solids : List Bounds) (body : Bounds) (on_ground : Bool) (vel : Vec3) (walking : Bool) (walk : Walked) (origin : Vec3)
    → body ≡ body_of me → on_ground ≡ ground_of body solids → vel ≡ velocity_after on_ground me cmd → walking ≡ walks on_ground cmd → walk ≡ walk_of walking body vel cmd.ms solids → origin ≡ plus me.origin walk.shift
    → record { origin = origin; vel = walk.vel; ground = on_ground } ≡ move_of me cmd solids
unfolding move_of
move_by_steps me cmd solids body on_ground vel walking walk origin body_is ground_is vel_is walking_is walk_is origin_is = cc

-- ---- the reach
pub distance_le : (speed : ℤ) (ms most : ℕ) → unsigned_abs speed ≤ most → unsigned_abs (distance speed ms) ≤ most * ms / 1000
distance_le speed ms most small =
    let size = unsigned_abs-part_at 1000 ms speed in
    let product : unsigned_abs speed * ms ≤ most * ms = mul-le (unsigned_abs speed) ms most ms small (omega arith) in
    omega arith

there : (from shift : ℤ) → (from +ℤ shift) -ℤ from ≡ shift
there from shift = omega (arith, ints)

reached_by_walk : (from vel fast shift : Vec3) (ms : ℕ) → IsFast vel fast → IsWalk fast ms shift → IsReached from vel ms (plus from shift)
reached_by_walk from vel fast shift ms is walk =
    let x = distance_le fast.x ms _ is.x in
    let y = distance_le fast.y ms _ is.y in
    let z = distance_le fast.z ms _ is.z in
    record {
      x = rw there (omega (arith, x, walk.x));
      y = rw there (omega (arith, y, walk.y));
      z = rw there (omega (arith, z, walk.z));
    }

pub move_reach : MoveReach
unfolding move_of
move_reach me cmd solids brief =
    let on_ground = ground_of (body_of me) solids in
    let fast = velocity_after on_ground me cmd in
    reached_by_walk me.origin me.vel fast _ cmd.ms (velocity_is_fast on_ground me cmd brief) (walk_is_walk (walks on_ground cmd) (body_of me) fast cmd.ms solids)
