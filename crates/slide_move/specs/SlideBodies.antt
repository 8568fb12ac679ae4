-- Where a body comes on its slide.
use Rattle.std.specs.Prelude.{ℕ, zero, suc, List, [], ◌∷◌, ◌++◌}
use Rattle.std.specs.Option.{option_map_or}
use Rattle.arena_geo.specs.declared.vec3.Vec3.{Vec3}
use Rattle.arena_geo.specs.Bounds.{Bounds}
use Rattle.arena_geo.specs.Boxes.{box_moved_by}
use Rattle.box_trace.specs.Steps.{body_at}
use Rattle.box_trace.specs.Traces.{trace_of}
use Rattle.slide_move.specs.Displacements.{displacement}
use Rattle.slide_move.specs.Slides.{leg_of}

-- the body at each of the steps 1 to k of a way
abbrev pub steps_to : ℕ → Bounds → Vec3 → List Bounds
steps_to zero body way = []
steps_to (suc k) body way = steps_to k body way ++ body_at body way (suc k) ∷ []

-- the body at each step after the start that it goes this way, with so many traces left
unfoldable pub bodies_along : ℕ → Bounds → Vec3 → Vec3 → List Bounds → List Bounds
bodies_along zero body vel way solids = []
bodies_along (suc traces) body vel way solids =
    let leg = leg_of body vel way solids in
    let there = box_moved_by body leg.slid.shift in
    steps_to (trace_of body way solids).steps body way
    ++ option_map_or (λ rest. bodies_along traces there leg.slid.vel rest solids) leg.rest []

-- the body at each step of its slide after the start
unfoldable pub bodies_on_slide : Bounds → Vec3 → ℕ → List Bounds → List Bounds
bodies_on_slide body vel ms solids = bodies_along 4 body vel (displacement vel ms) solids

-- the last place, the start where there is none
abbrev pub last_body : Bounds → List Bounds → Bounds
last_body start [] = start
last_body start (place ∷ places) = last_body place places
