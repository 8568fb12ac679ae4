-- What a box has met first of those records that were looked at.
use Rattle.std.specs.Prelude.{◌≡◌, List, ◌++◌}
use Rattle.arena_geo.specs.declared.vec3.Vec3.{Vec3}
use Rattle.arena_geo.specs.Bounds.{Bounds}
use Rattle.arena_geo.specs.Boxes.{hull}
use Rattle.entity_recs.specs.declared.rec.Rec.{Rec}
use Rattle.box_trace.specs.Steps.{body_at}
use Rattle.box_trace.specs.Traces.{trace_of}
use Rattle.trigger_rules.specs.Touching.{bodies_of_solids}
use Rattle.shot_rules.specs.declared.meeting.Met.{Met}
use Rattle.shot_rules.specs.Targets.{target_of}

-- the box goes so many steps, in this space, and meets this one among the walls, the blocks and these records
pub record IsMeeting (body : Bounds) (way : Vec3) (fixed : List Bounds) (near : List Rec) (m : Met) : Type 0 where
  pub steps : m.steps ≡ (trace_of body way (fixed ++ bodies_of_solids near)).steps
  pub swept : m.swept ≡ hull body (body_at body way m.steps)
  pub target : m.target ≡ target_of body way fixed near
