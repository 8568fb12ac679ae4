-- What a slide is: up to four traces, each of what the solid before it left of the way.
use Rattle.std.specs.Prelude.{ℕ, zero, suc, Bool, true, false, ◌||◌, if◌then◌else◌, List, Option, None, option_and_then}
use Rattle.std.specs.Option.{option_map_or}
use Rattle.arena_geo.specs.declared.vec3.Vec3.{Vec3}
use Rattle.arena_geo.specs.Vectors.{zero_vector, plus, minus}
use Rattle.arena_geo.specs.Bounds.{Bounds}
use Rattle.arena_geo.specs.Boxes.{box_moved_by}
use Rattle.box_trace.specs.declared.axis.Axis.{Axis}
use Rattle.box_trace.specs.declared.axis.Axis.TheVariants.{X, Y, Z}
use Rattle.box_trace.specs.declared.hit.Hit.{Hit}
use Rattle.box_trace.specs.Axes.{axis_with}
use Rattle.box_trace.specs.Steps.{shift_at}
use Rattle.box_trace.specs.Traces.{trace_of}
use Rattle.slide_move.specs.declared.slid.Slid.{Slid}
use Rattle.slide_move.specs.declared.leg.Leg.{Leg}
use Rattle.slide_move.specs.Displacements.{displacement, without, some_way}

-- a slide that doesn't move
abbrev pub still : Vec3 → Slid
still vel = record { shift = zero_vector; vel = vel; side = false }

-- a slide, and then another one
abbrev pub slide_then : Slid → Slid → Slid
slide_then first next = record {
  shift = plus first.shift next.shift;
  vel = next.vel;
  side = first.side || next.side;
}

-- a leg that ends the slide
abbrev pub last_leg : Vec3 → Vec3 → Leg
last_leg shift vel =
    record { slid = record { shift = shift; vel = vel; side = false }; rest = None }

-- the axis is x or y
abbrev pub is_sideways : Axis → Bool
is_sideways X = true
is_sideways Y = true
is_sideways Z = false

-- a leg that runs into a solid on this axis: it loses that part of the velocity and of the way that is left
abbrev pub leg_on : Vec3 → Vec3 → Vec3 → Axis → Leg
leg_on shift vel left axis = record {
  slid = record { shift = shift; vel = without axis vel; side = is_sideways axis };
  rest = some_way (without axis left);
}

-- a leg that runs into a solid, on the axis with this number; without an axis it loses all velocity and ends the slide
abbrev pub stopped_leg : Vec3 → Vec3 → Vec3 → Option ℕ → Leg
stopped_leg shift vel left number =
    option_map_or (leg_on shift vel left) (option_and_then axis_with number) (last_leg shift zero_vector)

-- the leg whose trace of this way finds this
abbrev pub leg_after : Hit → Vec3 → Vec3 → Leg
leg_after hit vel way =
    let shift = shift_at way hit.steps in
    if hit.whole then last_leg shift vel else stopped_leg shift vel (minus way shift) hit.axis

-- the leg of a body that goes this way at this velocity
unfoldable pub leg_of : Bounds → Vec3 → Vec3 → List Bounds → Leg
leg_of body vel way solids = leg_after (trace_of body way solids) vel way

-- the slide of a body that goes this way, with so many traces left: a leg, and then the slide of what it leaves
unfoldable pub slide_along : ℕ → Bounds → Vec3 → Vec3 → List Bounds → Slid
slide_along zero body vel way solids = still vel
slide_along (suc traces) body vel way solids =
    let leg = leg_of body vel way solids in
    let there = box_moved_by body leg.slid.shift in
    slide_then leg.slid
    (option_map_or (λ rest. slide_along traces there leg.slid.vel rest solids) leg.rest (still leg.slid.vel))

-- the slide of a body at this velocity in so many milliseconds
unfoldable pub slide_of : Bounds → Vec3 → ℕ → List Bounds → Slid
slide_of body vel ms solids = slide_along 4 body vel (displacement vel ms) solids
