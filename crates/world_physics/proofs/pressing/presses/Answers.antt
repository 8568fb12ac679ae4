use Rattle.std.proofs.Common.{◌∙◌, ap, sym}
use Rattle.arena_geo.specs.Boxes.{box_moved_by}
use Rattle.entity_recs.specs.Bodies.{body_of}
use Rattle.arena_map.specs.Positions.{upwards}
use Rattle.world_physics.proofs.Carried.{kept-up}
use Rattle.world_physics.proofs.Pressed.{pressed-is}
use Rattle.world_physics.proofs.pressing.presses.Goals as goal

pub carries-requires-clause-record : goal.carries-requires-clause-record
carries-requires-clause-record c = c.requires.record c.in-Some.r c.in-Some.is

pub raised_body-requires-clause-record : goal.raised_body-requires-clause-record
raised_body-requires-clause-record c = c.requires.record c.in-Some.r c.in-Some.is

pub returns-then-carries : goal.returns-then-carries
returns-then-carries c =
    pressed-is c.args.map.now c.args.step.now c.args.world.now.records c.args.place c.in-Some.r c.raised_body.result c.is_obstructed.result c.in-Some.is (sym c.carries.ensures ∙ c.if-carries.true)
    (c.raised_body.ensures ∙ ap (λ up. box_moved_by (body_of c.in-Some.r) (upwards up)) (kept-up c.args.step.now c.requires.step)) c.is_obstructed.ensures
