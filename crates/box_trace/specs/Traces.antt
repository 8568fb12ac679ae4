-- What a trace is: how far a body comes before a solid stops it, and which solid that is.
use Rattle.std.specs.Prelude.{◌≡◌, ℕ, zero, suc, ◌+◌, ◌≤◌, ◌==◌, Bool, true, false, not, ◌&&◌, if◌then◌else◌}
use Rattle.std.specs.Prelude.{List, Option, Some, None, position, find, slice_get, option_map, option_and_then}
use Rattle.arena_geo.specs.declared.vec3.Vec3.{Vec3}
use Rattle.arena_geo.specs.Bounds.{Bounds}
use Rattle.arena_geo.specs.Boxes.{overlaps_on, overlaps, is_blocked}
use Rattle.box_trace.specs.declared.axis.Axis.{Axis}
use Rattle.box_trace.specs.declared.axis.Axis.TheVariants.{X, Y, Z}
use Rattle.box_trace.specs.declared.hit.Hit.{Hit}
use Rattle.box_trace.specs.Axes.{number_of}
use Rattle.box_trace.specs.Steps.{step_count, body_at}

-- none of the steps 1 to k is blocked
pub record IsFree (body : Bounds) (d : Vec3) (solids : List Bounds) (k : ℕ) : Type 0 where
  pub free : (i : ℕ) → 1 ≤ i → i ≤ k → is_blocked (body_at body d i) solids ≡ false

-- no solid overlaps the body at any step of the way after the start
abbrev pub IsFreeWay : Bounds → Vec3 → List Bounds → Type 0
IsFreeWay body d solids =
    (k : ℕ) → 1 ≤ k → k ≤ step_count d → is_blocked (body_at body d k) solids ≡ false

-- the place in the list of the first solid that blocks step k
abbrev pub block_at : Bounds → Vec3 → List Bounds → ℕ → Option ℕ
block_at body d solids k = position (overlaps (body_at body d k)) solids

-- the first solid that blocks step k
abbrev pub blocker_at : Bounds → Vec3 → List Bounds → ℕ → Option Bounds
blocker_at body d solids k = find (overlaps (body_at body d k)) solids

-- the first axis on which two boxes don't overlap, none where they overlap on all three
abbrev pub separating_axis : Bounds → Bounds → Option Axis
separating_axis a b =
    if overlaps_on a.lo.x a.hi.x b.lo.x b.hi.x
    then (if overlaps_on a.lo.y a.hi.y b.lo.y b.hi.y
    then (if overlaps_on a.lo.z a.hi.z b.lo.z b.hi.z then None else Some Z)
    else Some Y)
    else Some X

-- the number of that axis
abbrev pub apart_axis : Bounds → Bounds → Option ℕ
apart_axis a b = option_map number_of (separating_axis a b)

-- the axis on which the body runs into the first solid that blocks the step after k
abbrev pub axis_after : Bounds → Vec3 → List Bounds → ℕ → Option ℕ
axis_after body d solids k =
    option_and_then (apart_axis (body_at body d k)) (blocker_at body d solids (k + 1))

-- the trace: its steps are the greatest number up to which none is blocked
-- What a trace is, as a relation; `trace_of` beside it is for callers that rewrite.
pub record IsTrace (body : Bounds) (d : Vec3) (solids : List Bounds) (hit : Hit) : Type 0 where
  pub within : hit.steps ≤ step_count d
  pub free : IsFree body d solids hit.steps
  pub most : (k : ℕ) → k ≤ step_count d → IsFree body d solids k → k ≤ hit.steps
  pub whole : hit.whole ≡ (hit.steps == step_count d)
  pub block : hit.block ≡ (if hit.whole then None else block_at body d solids (hit.steps + 1))
  pub axis : hit.axis ≡ (if hit.whole then None else axis_after body d solids hit.steps)

-- whether none of the steps 1 to k is blocked
abbrev pub is_free : Bounds → Vec3 → List Bounds → ℕ → Bool
is_free body d solids zero = true
is_free body d solids (suc k) = is_free body d solids k && not (is_blocked (body_at body d (suc k)) solids)

-- the greatest number up to n that passes, 0 where none does
abbrev pub greatest : (ℕ → Bool) → ℕ → ℕ
greatest p zero = 0
greatest p (suc n) = if p (suc n) then suc n else greatest p n

-- the greatest number of steps of which none is blocked
abbrev pub free_steps : Bounds → Vec3 → List Bounds → ℕ
free_steps body d solids = greatest (is_free body d solids) (step_count d)

-- the answer for a body that goes so many steps
abbrev pub hit_after : Bounds → Vec3 → List Bounds → ℕ → Hit
hit_after body d solids steps =
    let whole = steps == step_count d in
    record {
      steps = steps;
      whole = whole;
      axis = if whole then None else axis_after body d solids steps;
      block = if whole then None else block_at body d solids (steps + 1);
    }

-- the trace as a function; `IsTrace` says what callers need of it, so it stays closed in their goals
unfoldable pub trace_of : Bounds → Vec3 → List Bounds → Hit
trace_of body d solids = hit_after body d solids (free_steps body d solids)

-- whether two boxes overlap, where there is a second one
abbrev pub overlaps_some : Bounds → Option Bounds → Bool
overlaps_some a None = false
overlaps_some a (Some b) = overlaps a b

-- whether the body overlaps the solid that stops it already before the step that this solid blocks
abbrev pub is_inside_block : Bounds → Vec3 → List Bounds → Hit → Bool
is_inside_block body d solids hit =
    overlaps_some (body_at body d hit.steps) (option_and_then (slice_get solids) hit.block)
