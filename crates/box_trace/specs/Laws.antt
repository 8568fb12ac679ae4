-- What holds of all traces, and of the walls of all arenas.
use Rattle.std.specs.Prelude.{◌≡◌, ◌≢◌, ℕ, ◌+◌, ◌*◌, ◌≤◌, ◌<◌, ◌↔◌, Bool, true, false, List, Some, slice_get}
use Rattle.std.specs.Prelude.{ℤ, pos, ◌≤ℤ◌, unsigned_abs}
use Rattle.arena_geo.specs.declared.vec3.Vec3.{Vec3}
use Rattle.arena_geo.specs.Bounds.{Bounds, IsInRange, IsOrdered}
use Rattle.arena_geo.specs.Boxes.{box_moved_by, contains, overlaps_on, overlaps, is_blocked}
use Rattle.box_trace.specs.declared.axis.Axis.{Axis}
use Rattle.box_trace.specs.declared.hit.Hit.{Hit}
use Rattle.box_trace.specs.declared.hit.TheConstants.{MOST_SOLIDS}
use Rattle.box_trace.specs.declared.way.TheConstants.{REACH}
use Rattle.box_trace.specs.Axes.{number_of, part}
use Rattle.box_trace.specs.Steps.{step_count, shift_at, body_at}
use Rattle.box_trace.specs.Traces.{IsFreeWay, IsTrace, trace_of}
use Rattle.box_trace.specs.Walls.{walls_of, HaveWalls}

-- how far from 0 a part of a displacement is, and how many solids there are, at most
pub record LimitsAreKnown : Type 0 where
  pub reach : REACH ≡ 65536
  pub solids : MOST_SOLIDS ≡ 65535

-- there is one trace, and the function gives it
abbrev pub TraceIsUnique : Type 0
TraceIsUnique =
    (body : Bounds) (d : Vec3) (solids : List Bounds) (hit : Hit)
    → IsTrace body d solids hit ↔ (hit ≡ trace_of body d solids)

-- n is the greatest of the parts of a displacement, signs left out
pub record IsGreatestPart (d : Vec3) (n : ℕ) : Type 0 where
  pub most : (axis : Axis) → unsigned_abs (part axis d) ≤ n
  pub axis : Axis
  pub reached : unsigned_abs (part axis d) ≡ n

-- the shift is k parts in n of the whole, cut toward 0: it lies on the side of 0 on which the whole lies
pub record IsShareOf (k n : ℕ) (whole shift : ℤ) : Type 0 where
  pub least : unsigned_abs shift * n ≤ unsigned_abs whole * k
  pub most : unsigned_abs whole * k < (unsigned_abs shift + 1) * n
  pub stays_positive : pos 0 ≤ℤ whole → pos 0 ≤ℤ shift
  pub stays_negative : whole ≤ℤ pos 0 → shift ≤ℤ pos 0

-- the way has n steps, at step k of which the body is shifted by k parts in n of the displacement on each axis
pub record GoesStraight (body : Bounds) (d : Vec3) (k n : ℕ) : Type 0 where
  pub steps : step_count d ≡ n
  pub shifted : body_at body d k ≡ box_moved_by body (shift_at d k)
  pub share : (axis : Axis) → IsShareOf k n (part axis d) (part axis (shift_at d k))

-- a body goes straight, in as many steps as the greatest part of its displacement has sub-units
abbrev pub WaysAreStraight : Type 0
WaysAreStraight =
    (body : Bounds) (d : Vec3) (k n : ℕ) → IsGreatestPart d n → 0 < n → k ≤ n → GoesStraight body d k n

-- a body is in range at every step exactly where it is in range at both ends of its way
abbrev pub StepsStayInRange : Type 0
StepsStayInRange =
    (body : Bounds) (d : Vec3) → IsInRange body
    → (IsInRange (box_moved_by body d) ↔ ((k : ℕ) → k ≤ step_count d → IsInRange (body_at body d k)))

-- no solid overlaps the body at a step that its trace goes
abbrev pub StepsAreFree : Type 0
StepsAreFree =
    (body : Bounds) (d : Vec3) (solids : List Bounds) (k : ℕ)
    → 1 ≤ k → k ≤ (trace_of body d solids).steps → is_blocked (body_at body d k) solids ≡ false

-- the trace goes the whole way, to its end
pub record GoesWholeWay (body : Bounds) (d : Vec3) (hit : Hit) : Type 0 where
  pub whole : hit.whole ≡ true
  pub end : body_at body d hit.steps ≡ box_moved_by body d

-- a trace of which the whole way is free goes all of it
abbrev pub FreeWayIsGone : Type 0
FreeWayIsGone =
    (body : Bounds) (d : Vec3) (solids : List Bounds)
    → IsFreeWay body d solids → GoesWholeWay body d (trace_of body d solids)

-- the next step is one of the way, and there the body overlaps the solid that the trace names, as the first of the list
pub record StopsAtSolid (body : Bounds) (d : Vec3) (solids : List Bounds) (hit : Hit) : Type 0 where
  pub block : ℕ
  pub solid : Bounds
  pub named : hit.block ≡ Some block
  pub there : slice_get solids block ≡ Some solid
  pub next : hit.steps + 1 ≤ step_count d
  pub overlap : overlaps (body_at body d (hit.steps + 1)) solid ≡ true
  pub first : (place : ℕ) (other : Bounds) → place < block → slice_get solids place ≡ Some other
      → overlaps (body_at body d (hit.steps + 1)) other ≡ false

-- a trace that isn't whole is stopped by the solid that it names
abbrev pub NamedSolidStops : Type 0
NamedSolidStops =
    (body : Bounds) (d : Vec3) (solids : List Bounds)
    → (trace_of body d solids).whole ≡ false → StopsAtSolid body d solids (trace_of body d solids)

-- the number is that of an axis, on which the displacement isn't 0
pub record IsMovedAlong (d : Vec3) (number : ℕ) : Type 0 where
  pub axis : Axis
  pub named : number ≡ number_of axis
  pub moves : part axis d ≢ pos 0

-- a body is stopped on an axis along which it moves
abbrev pub AxisIsMovedAlong : Type 0
AxisIsMovedAlong =
    (body : Bounds) (d : Vec3) (solids : List Bounds) (number : ℕ)
    → (trace_of body d solids).axis ≡ Some number → IsMovedAlong d number

-- the number of the first of three tests that fails, from 0 on
pub data IsFirstFailing (x y z : Bool) (number : ℕ) : Type 0 where
  x_fails : x ≡ false → number ≡ 0 → IsFirstFailing x y z number
  y_fails : x ≡ true → y ≡ false → number ≡ 1 → IsFirstFailing x y z number
  z_fails : x ≡ true → y ≡ true → z ≡ false → number ≡ 2 → IsFirstFailing x y z number

-- the number of the first of x, y and z on which two boxes don't overlap
abbrev pub IsFirstApart : Bounds → Bounds → ℕ → Type 0
IsFirstApart a b number =
    IsFirstFailing
    (overlaps_on a.lo.x a.hi.x b.lo.x b.hi.x)
    (overlaps_on a.lo.y a.hi.y b.lo.y b.hi.y)
    (overlaps_on a.lo.z a.hi.z b.lo.z b.hi.z)
    number

-- the axis named is the first on which the body and the solid that stops it don't overlap at the last step gone
abbrev pub FirstAxisIsNamed : Type 0
FirstAxisIsNamed =
    (body : Bounds) (d : Vec3) (solids : List Bounds) (block : ℕ) (solid : Bounds) (number : ℕ)
    → (trace_of body d solids).block ≡ Some block → slice_get solids block ≡ Some solid
    → ((trace_of body d solids).axis ≡ Some number)
    ↔ IsFirstApart (body_at body d (trace_of body d solids).steps) solid number

-- the walls of an arena block no body inside it, faces counted
abbrev pub WallsLeaveInsideFree : Type 0
WallsLeaveInsideFree = (arena b : Bounds) → contains arena b ≡ true → is_blocked b (walls_of arena) ≡ false

-- a body inside the arena, faces counted, is inside at each step of its trace, where the solids have the arena's walls
abbrev pub TraceStaysInside : Type 0
TraceStaysInside =
    (arena body : Bounds) (d : Vec3) (solids : List Bounds)
    → IsOrdered body → HaveWalls arena solids → contains arena body ≡ true
    → (k : ℕ) → k ≤ (trace_of body d solids).steps → contains arena (body_at body d k) ≡ true
