-- The traces that a slide makes, and on which axes they stop the body.
use Rattle.std.specs.Prelude.{ℕ, zero, suc, ◌==◌, Bool, false, not, ◌&&◌, ◌||◌}
use Rattle.std.specs.Prelude.{List, [], ◌∷◌, Option, Some, None, is_none}
use Rattle.std.specs.Option.{option_map_or}
use Rattle.arena_geo.specs.declared.vec3.Vec3.{Vec3}
use Rattle.arena_geo.specs.Bounds.{Bounds}
use Rattle.arena_geo.specs.Boxes.{box_moved_by}
use Rattle.box_trace.specs.declared.axis.Axis.{Axis}
use Rattle.box_trace.specs.declared.axis.Axis.TheVariants.{X, Y}
use Rattle.box_trace.specs.declared.hit.Hit.{Hit}
use Rattle.box_trace.specs.Axes.{number_of}
use Rattle.box_trace.specs.Traces.{trace_of}
use Rattle.slide_move.specs.Displacements.{displacement}
use Rattle.slide_move.specs.Slides.{leg_of}

-- what the traces of a slide find that goes this way, with so many traces left
unfoldable pub traces_along : ℕ → Bounds → Vec3 → Vec3 → List Bounds → List Hit
traces_along zero body vel way solids = []
traces_along (suc traces) body vel way solids =
    let leg = leg_of body vel way solids in
    let there = box_moved_by body leg.slid.shift in
    trace_of body way solids
    ∷ option_map_or (λ rest. traces_along traces there leg.slid.vel rest solids) leg.rest []

-- what the traces of a slide find, in order
unfoldable pub traces_of : Bounds → Vec3 → ℕ → List Bounds → List Hit
traces_of body vel ms solids = traces_along 4 body vel (displacement vel ms) solids

-- whether this is the number of the axis
abbrev pub is_number_of : Axis → Option ℕ → Bool
is_number_of axis None = false
is_number_of axis (Some number) = number == number_of axis

-- whether a trace runs into a solid on this axis
abbrev pub hits_on : Axis → Hit → Bool
hits_on axis hit = is_number_of axis hit.axis

-- whether a trace runs into a solid on x or y
abbrev pub hits_sideways : Hit → Bool
hits_sideways hit = hits_on X hit || hits_on Y hit

-- whether a trace stops the body on this axis: it runs into a solid there, or the body overlaps that solid already
abbrev pub stops_on : Axis → Hit → Bool
stops_on axis hit = not hit.whole && (is_none hit.axis || hits_on axis hit)
