-- How far a body goes where nothing stops it, in numbers.
use Rattle.std.specs.Prelude.{ℕ, List, pos, ◌*ℤ◌, int_div}
use Rattle.arena_geo.specs.declared.vec3.Vec3.{Vec3}
use Rattle.arena_geo.specs.Vectors.{vector}
use Rattle.arena_geo.specs.Bounds.{Bounds}
use Rattle.box_trace.specs.Traces.{IsFreeWay}
use Rattle.slide_move.specs.Slides.{slide_of}
use Rattle.slide_move.specs.Laws.{GoesFreely}

-- the velocity times the time by 1,000 on each axis, cut toward 0
abbrev pub way_in : Vec3 → ℕ → Vec3
way_in vel ms =
    vector (int_div (vel.x *ℤ pos ms) (pos 1000)) (int_div (vel.y *ℤ pos ms) (pos 1000))
    (int_div (vel.z *ℤ pos ms) (pos 1000))

-- where that way is free a slide goes it, at the velocity that it is given
abbrev pub FreeSlidesGoByTheirVelocity : Type 0
FreeSlidesGoByTheirVelocity =
    (body : Bounds) (vel : Vec3) (ms : ℕ) (solids : List Bounds)
    → IsFreeWay body (way_in vel ms) solids
    → GoesFreely (way_in vel ms) vel (slide_of body vel ms solids)
