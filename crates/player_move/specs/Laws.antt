-- What holds of all moves.
use Rattle.std.specs.Prelude.{◌≡◌, ◌≢◌, ℕ, ◌+◌, ◌*◌, ◌/◌, ◌%◌, ◌<◌, ◌≤◌, ◌⊎◌, ◌↔◌, min, true, false, List, All, Any}
use Rattle.std.specs.Prelude.{ℤ, pos, ◌-ℤ◌, ◌≤ℤ◌, unsigned_abs}
use Rattle.std.specs.List.{filter}
use Rattle.arena_geo.specs.declared.vec3.Vec3.{Vec3}
use Rattle.arena_geo.specs.Vectors.{IsNear, vector, plus, minus}
use Rattle.arena_geo.specs.Bounds.{Bounds, IsOrdered}
use Rattle.arena_geo.specs.Boxes.{overlaps_on, overlaps, contains, box_grown_by, box_moved_by, is_blocked}
use Rattle.arena_geo.specs.Laws.{HasInside}
use Rattle.box_trace.specs.Traces.{trace_of}
use Rattle.box_trace.specs.Walls.{HaveWalls}
use Rattle.slide_move.specs.declared.slid.Slid.{Slid}
use Rattle.slide_move.specs.Slides.{slide_of}
use Rattle.entity_recs.specs.declared.rec.Rec.{Rec}
use Rattle.entity_recs.specs.Bodies.{body_of}
use Rattle.speed_rules.specs.declared.constants.TheConstants.{MAX_SPEED, SECOND}
use Rattle.speed_rules.specs.Measures.{greatest_velocity}
use Rattle.player_move.specs.declared.moved.Moved.{Moved}
use Rattle.player_move.specs.declared.walk.Walked.{Walked}
use Rattle.player_move.specs.declared.limits.TheConstants.{FARTHEST_ORIGIN}
use Rattle.player_move.specs.declared.stairs.TheConstants.{STAIR_HEIGHT}
use Rattle.player_move.specs.Intents.{Intent}
use Rattle.player_move.specs.Velocities.{walks, velocity_after}
use Rattle.player_move.specs.Walks.{upwards, level, ground_of, flat_square, stairs_of}
use Rattle.player_move.specs.Moves.{body_after, move_of}

-- ---- where a move ends
-- a body that overlaps no solid at the start overlaps none at the end
abbrev pub MoveEndsFree : Type 0
MoveEndsFree =
    (me : Rec) (cmd : Intent) (solids : List Bounds)
    → is_blocked (body_of me) solids ≡ false
    → is_blocked (body_after me (move_of me cmd solids)) solids ≡ false

-- a body inside the arena, faces counted, ends inside, where the solids have the walls of the arena
abbrev pub MoveStaysInside : Type 0
MoveStaysInside =
    (arena : Bounds) (me : Rec) (cmd : Intent) (solids : List Bounds)
    → IsOrdered (body_of me)
    → HaveWalls arena solids
    → contains arena (body_of me) ≡ true
    → contains arena (body_after me (move_of me cmd solids)) ≡ true

-- ---- a move and its plain slide
-- the slide of a move, without stairs
abbrev pub plain_slide_of : Rec → Intent → List Bounds → Slid
plain_slide_of me cmd solids =
    let on_ground = ground_of (body_of me) solids in
    slide_of (body_of me) (velocity_after on_ground me cmd) cmd.ms solids

-- the square of how far a record has come over the ground
abbrev pub flat_square_of : Rec → Moved → ℕ
flat_square_of me moved = flat_square (minus moved.origin me.origin)

-- the move is this slide
pub record IsSlide (me : Rec) (slid : Slid) (moved : Moved) : Type 0 where
  pub origin : moved.origin ≡ plus me.origin slid.shift
  pub vel : moved.vel ≡ slid.vel

-- the move walks, this slide hits a side, and the move goes strictly farther and ends on the ground, without speed on z
pub record GoesFarther (me : Rec) (cmd : Intent) (solids : List Bounds) (slid : Slid) (moved : Moved) : Type 0 where
  pub walks : walks (ground_of (body_of me) solids) cmd ≡ true
  pub side : slid.side ≡ true
  pub farther : flat_square slid.shift < flat_square_of me moved
  pub on_ground : ground_of (body_after me moved) solids ≡ true
  pub level : moved.vel.z ≡ pos 0

-- the move goes no less far over the ground than this slide; it is that slide, or goes farther and ends on the ground
pub record GoesNoLessFar (me : Rec) (cmd : Intent) (solids : List Bounds) (slid : Slid) (moved : Moved) : Type 0 where
  pub no_less_far : flat_square slid.shift ≤ flat_square_of me moved
  pub either : IsSlide me slid moved ⊎ GoesFarther me cmd solids slid moved

-- a move goes no less far over the ground than its plain slide, and where the two differ it ends on the ground
abbrev pub MoveGoesNoLessFar : Type 0
MoveGoesNoLessFar =
    (me : Rec) (cmd : Intent) (solids : List Bounds)
    → GoesNoLessFar me cmd solids (plain_slide_of me cmd solids) (move_of me cmd solids)

-- ---- what stairs are
-- how far the body comes up before a solid stops it, at most the height of a stair
abbrev pub rise_of : Bounds → List Bounds → ℕ
rise_of body solids = (trace_of body (upwards STAIR_HEIGHT) solids).steps

-- the stairs go over the ground as this slide, from this far up, and then down to the ground or as low as they began
pub record AreStairs (body : Bounds) (solids : List Bounds) (rise : ℕ) (along : Slid) (stairs : Walked) : Type 0 where
  pub x : stairs.shift.x ≡ along.shift.x
  pub y : stairs.shift.y ≡ along.shift.y
  pub vel : stairs.vel ≡ level along.vel
  pub lowest : pos 0 ≤ℤ stairs.shift.z
  pub highest : stairs.shift.z ≤ℤ pos rise
  pub free : (height : ℕ) → stairs.shift.z ≤ℤ pos height → height < rise
      → is_blocked (box_moved_by body (vector along.shift.x along.shift.y (pos height))) solids ≡ false
  pub ends : (stairs.shift.z ≡ pos 0) ⊎ (ground_of (box_moved_by body stairs.shift) solids ≡ true)

-- over the ground stairs are the level slide from as far up as the body comes, and from there they lead down again
abbrev pub StairsGoUpAndDown : Type 0
StairsGoUpAndDown =
    (body : Bounds) (vel : Vec3) (ms : ℕ) (solids : List Bounds)
    → AreStairs body solids (rise_of body solids)
    (slide_of (box_moved_by body (upwards (rise_of body solids))) (level vel) ms solids)
    (stairs_of body vel ms solids)

-- ---- a move and its stairs
-- the stairs of a move, whether they are taken or not
abbrev pub stairs_of_move : Rec → Intent → List Bounds → Walked
stairs_of_move me cmd solids =
    let on_ground = ground_of (body_of me) solids in
    stairs_of (body_of me) (velocity_after on_ground me cmd) cmd.ms solids

-- the move is these stairs
pub record IsStairs (me : Rec) (stairs : Walked) (moved : Moved) : Type 0 where
  pub origin : moved.origin ≡ plus me.origin stairs.shift
  pub vel : moved.vel ≡ stairs.vel

-- on the ground, without a jump, this slide hits a side, and the stairs lead strictly farther, to a place on the ground
pub record LeadFarther (me : Rec) (cmd : Intent) (solids : List Bounds) (slid : Slid) (stairs : Walked) : Type 0 where
  pub begins : ground_of (body_of me) solids ≡ true
  pub stays : cmd.buttons % 2 ≢ 1
  pub side : slid.side ≡ true
  pub farther : flat_square slid.shift < flat_square stairs.shift
  pub on_ground : ground_of (box_moved_by (body_of me) stairs.shift) solids ≡ true

-- where the stairs lead farther than this slide the move is the stairs, and else it is the slide
pub record IsTheFarther (me : Rec) (cmd : Intent) (solids : List Bounds) (slid : Slid) (stairs : Walked) (moved : Moved) : Type 0 where
  pub taken : LeadFarther me cmd solids slid stairs → IsStairs me stairs moved
  pub left : (LeadFarther me cmd solids slid stairs → ⊥) → IsSlide me slid moved

-- a move takes the stairs exactly where they lead farther than its plain slide
abbrev pub StairsAreTaken : Type 0
StairsAreTaken =
    (me : Rec) (cmd : Intent) (solids : List Bounds)
    → IsTheFarther me cmd solids (plain_slide_of me cmd solids) (stairs_of_move me cmd solids) (move_of me cmd solids)

-- ---- the ground
-- a move says whether the record was on the ground before it
abbrev pub GroundIsTested : Type 0
GroundIsTested =
    (me : Rec) (cmd : Intent) (solids : List Bounds)
    → (move_of me cmd solids).ground ≡ ground_of (body_of me) solids

-- the body stands on the solid: its bottom is level with the solid's top, and the two overlap on x and y
pub record StandsOn (body solid : Bounds) : Type 0 where
  pub top : solid.hi.z ≡ body.lo.z
  pub x : overlaps_on body.lo.x body.hi.x solid.lo.x solid.hi.x ≡ true
  pub y : overlaps_on body.lo.y body.hi.y solid.lo.y solid.hi.y ≡ true

-- a body that overlaps no solid is on the ground exactly where it stands on one, where neither it nor a solid is flat
abbrev pub OnGroundIsStanding : Type 0
OnGroundIsStanding =
    (body : Bounds) (solids : List Bounds)
    → HasInside body → All HasInside solids → is_blocked body solids ≡ false
    → (ground_of body solids ≡ true) ↔ Any (StandsOn body) solids

-- ---- how far a move goes
-- how far a move that begins with this speed on an axis goes on it, but for stairs
-- By each axis' own speed, since locks need boxes.
abbrev pub reach_on : ℤ → ℕ → ℕ
reach_on speed ms = min greatest_velocity (unsigned_abs speed + MAX_SPEED) * ms / SECOND

-- on x and y the place is within the reach, and on z at most the height of a stair beyond it
pub record IsReached (from vel : Vec3) (ms : ℕ) (to : Vec3) : Type 0 where
  pub x : unsigned_abs (to.x -ℤ from.x) ≤ reach_on vel.x ms
  pub y : unsigned_abs (to.y -ℤ from.y) ≤ reach_on vel.y ms
  pub z : unsigned_abs (to.z -ℤ from.z) ≤ reach_on vel.z ms + STAIR_HEIGHT

-- where a move looks: the body, larger on each axis by the reach, and on z by the height of a stair and 1 more
abbrev pub looked_at : Rec → ℕ → Bounds
looked_at me ms =
    box_grown_by (body_of me) (record {
      x = pos (reach_on me.vel.x ms);
      y = pos (reach_on me.vel.y ms);
      z = pos (reach_on me.vel.z ms + (STAIR_HEIGHT + 1));
    })

-- a move ends within its reach
abbrev pub MoveReach : Type 0
MoveReach =
    (me : Rec) (cmd : Intent) (solids : List Bounds)
    → cmd.ms ≤ 50
    → IsReached me.origin me.vel cmd.ms (move_of me cmd solids).origin

-- a move is the same over all solids of which the same ones, in the same order, overlap where it looks
abbrev pub MoveLooksWithin : Type 0
MoveLooksWithin =
    (me : Rec) (cmd : Intent) (solids others : List Bounds)
    → cmd.ms ≤ 50
    → filter (overlaps (looked_at me cmd.ms)) solids ≡ filter (overlaps (looked_at me cmd.ms)) others
    → move_of me cmd solids ≡ move_of me cmd others

-- ---- how fast a record is after a move
-- on no axis is a record faster than 512,000 after a move
abbrev pub MoveStaysSlow : Type 0
MoveStaysSlow =
    (me : Rec) (cmd : Intent) (solids : List Bounds) → IsNear greatest_velocity (move_of me cmd solids).vel

-- ---- the numbers
-- the numbers that the clauses of a move cite: the farthest from 0 that it ends on an axis, and the height of a stair
pub record LimitsAreKnown : Type 0 where
  pub farthest_origin : FARTHEST_ORIGIN ≡ 1074176
  pub stair_height : STAIR_HEIGHT ≡ 4608
