use Rattle.std.proofs.Common.{List, ◌++◌, filter, ◌∙◌, ap}
use Rattle.arena_geo.specs.Bounds.{Bounds}
use Rattle.arena_geo.specs.Boxes.{overlaps}
use Rattle.entity_recs.specs.Commands.{command_of}
use Rattle.arena_map.specs.Maps.{solids_of}
use Rattle.trigger_rules.specs.Touching.{walk_of}
use Rattle.arena_actions.proofs.Shooting.{in_range_is}
use Rattle.arena_actions.proofs.shot_action.ShotAction.fire_among_few.Goals as goal

pub returns-clause-walk : goal.returns-clause-walk
returns-clause-walk g c ended =
    let e = c.args.effect.now in
    c.fire_among.ensures.walk ended
    ∙ in_range_is (solids_of c.args.self.now.arena.map) c.as_slice.result.now c.args.near.now (command_of c.args.cmd.now) (walk_of e.me e.states e.reply.got ended) c.args.place.now c.requires.place
    (c.as_slice.ensures.value
    ∙ c.if-not-push_overlapping.ensures.boxes
    ∙ ap (λ (l : List Bounds). l ++ filter (overlaps c.args.place.now) c.solids-all.result.now) c.new-few.ensures
    ∙ ap (filter (overlaps c.args.place.now)) c.solids-all.ensures.value)
