-- What holds of all slides.
use Rattle.std.specs.Prelude.{◌≡◌, ℕ, ◌≤◌, true, false, List, length, All, pos}
use Rattle.std.specs.List.{list_any}
use Rattle.arena_geo.specs.declared.vec3.Vec3.{Vec3}
use Rattle.arena_geo.specs.Vectors.{IsNear}
use Rattle.arena_geo.specs.Bounds.{Bounds, IsInRange, IsOrdered}
use Rattle.arena_geo.specs.Boxes.{contains, box_grown_by, box_moved_by, is_blocked}
use Rattle.box_trace.specs.declared.axis.Axis.{Axis}
use Rattle.box_trace.specs.Axes.{part}
use Rattle.box_trace.specs.Traces.{IsFreeWay}
use Rattle.box_trace.specs.Walls.{HaveWalls}
use Rattle.slide_move.specs.declared.slid.Slid.{Slid}
use Rattle.slide_move.specs.declared.sliding.TheConstants.{GREATEST_SPEED}
use Rattle.slide_move.specs.Displacements.{displacement, reach}
use Rattle.slide_move.specs.Slides.{slide_of}
use Rattle.slide_move.specs.SlideBodies.{bodies_on_slide, last_body}
use Rattle.slide_move.specs.Hits.{traces_of, hits_sideways, stops_on}
use Rattle.slide_move.specs.Changes.{IsPartOfWay, KeepsOrStops}

-- the greatest part of the velocity
abbrev pub LimitIsKnown : Type 0
LimitIsKnown = GREATEST_SPEED ≡ 600000

-- the slide goes the whole way, at the velocity that it is given, and runs into nothing on x or y
pub record GoesFreely (way vel : Vec3) (slid : Slid) : Type 0 where
  pub shift : slid.shift ≡ way
  pub vel_is : slid.vel ≡ vel
  pub side : slid.side ≡ false

-- a slide of which the whole way is free goes all of it
abbrev pub FreeSlideGoesAll : Type 0
FreeSlideGoesAll =
    (body : Bounds) (vel : Vec3) (ms : ℕ) (solids : List Bounds)
    → IsFreeWay body (displacement vel ms) solids
    → GoesFreely (displacement vel ms) vel (slide_of body vel ms solids)

-- `side` comes exactly where some trace of the slide runs into a solid on x or y
abbrev pub SideIsSidewaysHit : Type 0
SideIsSidewaysHit =
    (body : Bounds) (vel : Vec3) (ms : ℕ) (solids : List Bounds)
    → (slide_of body vel ms solids).side ≡ list_any hits_sideways (traces_of body vel ms solids)

-- on an axis the slide goes the whole way, and keeps its velocity
pub record GoesOnAlong (axis : Axis) (way vel : Vec3) (slid : Slid) : Type 0 where
  pub shift : part axis slid.shift ≡ part axis way
  pub vel_is : part axis slid.vel ≡ part axis vel

-- on an axis on which no trace stops it, a slide goes on
abbrev pub GoesOnWhereNotStopped : Type 0
GoesOnWhereNotStopped =
    (body : Bounds) (vel : Vec3) (ms : ℕ) (solids : List Bounds) (axis : Axis)
    → list_any (stops_on axis) (traces_of body vel ms solids) ≡ false
    → GoesOnAlong axis (displacement vel ms) vel (slide_of body vel ms solids)

-- on an axis on which a trace stops it, a slide ends without velocity
abbrev pub EndsStillWhereStopped : Type 0
EndsStillWhereStopped =
    (body : Bounds) (vel : Vec3) (ms : ℕ) (solids : List Bounds) (axis : Axis)
    → list_any (stops_on axis) (traces_of body vel ms solids) ≡ true
    → part axis (slide_of body vel ms solids).vel ≡ pos 0

-- a slide makes at most three traces, since it runs into at most one solid on each axis
abbrev pub AtMostThreeTraces : Type 0
AtMostThreeTraces =
    (body : Bounds) (vel : Vec3) (ms : ℕ) (solids : List Bounds) → length (traces_of body vel ms solids) ≤ 3

-- on no axis does a slide go farther than the velocity does in the open, or the other way
abbrev pub ShiftIsPart : Type 0
ShiftIsPart =
    (body : Bounds) (vel : Vec3) (ms : ℕ) (solids : List Bounds)
    → IsPartOfWay (displacement vel ms) (slide_of body vel ms solids).shift

-- each part of the velocity is as it was or 0
abbrev pub VelocityIsKeptOrStopped : Type 0
VelocityIsKeptOrStopped =
    (body : Bounds) (vel : Vec3) (ms : ℕ) (solids : List Bounds)
    → KeepsOrStops vel (slide_of body vel ms solids).vel

-- no solid overlaps the body anywhere on its slide but perhaps at the start
abbrev pub BodiesAreFree : Type 0
BodiesAreFree =
    (body : Bounds) (vel : Vec3) (ms : ℕ) (solids : List Bounds)
    → All (λ place. is_blocked place solids ≡ false) (bodies_on_slide body vel ms solids)

-- the last of the places is where the slide ends
abbrev pub EndsAtLastBody : Type 0
EndsAtLastBody =
    (body : Bounds) (vel : Vec3) (ms : ℕ) (solids : List Bounds)
    → box_moved_by body (slide_of body vel ms solids).shift ≡ last_body body (bodies_on_slide body vel ms solids)

-- a body that is in range at the start, and would be at the end in the open, is in range everywhere on its slide
abbrev pub BodiesAreInRange : Type 0
BodiesAreInRange =
    (body : Bounds) (vel : Vec3) (ms : ℕ) (solids : List Bounds)
    → IsInRange body → IsInRange (box_moved_by body (displacement vel ms)) → All IsInRange (bodies_on_slide body vel ms solids)

-- a box that stays in range when it grows by the reach is in range wherever a velocity of a slide would take it
abbrev pub ReachSuffices : Type 0
ReachSuffices =
    (body : Bounds) (vel : Vec3) (ms : ℕ)
    → IsOrdered body → IsNear GREATEST_SPEED vel → ms ≤ 50 → IsInRange (box_grown_by body reach)
    → IsInRange (box_moved_by body (displacement vel ms))

-- the body is inside the arena, faces counted, at each of its places and at the end
pub record SlidesInside (arena body : Bounds) (vel : Vec3) (ms : ℕ) (solids : List Bounds) : Type 0 where
  pub at_places : All (λ place. contains arena place ≡ true) (bodies_on_slide body vel ms solids)
  pub at_end : contains arena (box_moved_by body (slide_of body vel ms solids).shift) ≡ true

-- a body inside the arena is inside everywhere on its slide, where the solids have the walls of the arena
abbrev pub SlideStaysInside : Type 0
SlideStaysInside =
    (arena body : Bounds) (vel : Vec3) (ms : ℕ) (solids : List Bounds)
    → IsOrdered body → HaveWalls arena solids → contains arena body ≡ true → SlidesInside arena body vel ms solids
