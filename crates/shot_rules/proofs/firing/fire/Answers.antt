use Rattle.std.proofs.Common.{false, ◌∙◌, refl, sym}
use Rattle.entity_recs.specs.Commands.{command_of}
use Rattle.trigger_rules.specs.Touching.{walk_of}
use Rattle.shot_rules.proofs.Ways.{shot_ends_in_range}
use Rattle.shot_rules.proofs.Walks.{is_fired_along, fired_at}
use Rattle.shot_rules.proofs.firing.fire.Goals as goal

pub target-requires-clause-in_range : goal.target-requires-clause-in_range
target-requires-clause-in_range c =
    shot_ends_in_range c.args.me.now.origin c.in-Some.way c.shot_box.result c.requires.record.origin (c.in-Some.ensures.near c.in-Some.way refl) c.shot_box.ensures

pub returns-in-Some-target-clause-fired : goal.returns-in-Some-target-clause-fired
returns-in-Some-target-clause-fired c =
    sym (is_fired_along (command_of c.args.cmd.now) (walk_of c.args.me.now c.args.states.now c.args.got.now false) c.in-Some.way
    (sym c.may_fire.ensures ∙ c.if-not-may_fire.false) (sym c.in-Some.is ∙ c.shot_way.ensures.value))

pub returns-in-Some-target-clause-walk : goal.returns-in-Some-target-clause-walk
returns-in-Some-target-clause-walk c ended =
    c.meet.ensures ended
    ∙ fired_at c.args.fixed.now c.args.near.now (command_of c.args.cmd.now) (walk_of c.args.me.now c.args.states.now c.args.got.now ended) c.shot_box.result c.in-Some.way
    _ (sym c.may_fire.ensures ∙ c.if-not-may_fire.false) (sym c.in-Some.is ∙ c.shot_way.ensures.value) c.shot_box.ensures (sym c.in-Some-target.is ∙ c.target.ensures)

pub returns-in_default-target-clause-fired : goal.returns-in_default-target-clause-fired
returns-in_default-target-clause-fired c =
    sym (is_fired_along (command_of c.args.cmd.now) (walk_of c.args.me.now c.args.states.now c.args.got.now false) c.in-Some.way
    (sym c.may_fire.ensures ∙ c.if-not-may_fire.false) (sym c.in-Some.is ∙ c.shot_way.ensures.value))

pub returns-in_default-target-clause-walk : goal.returns-in_default-target-clause-walk
returns-in_default-target-clause-walk c ended =
    fired_at c.args.fixed.now c.args.near.now (command_of c.args.cmd.now) (walk_of c.args.me.now c.args.states.now c.args.got.now ended) c.shot_box.result c.in-Some.way
    _ (sym c.may_fire.ensures ∙ c.if-not-may_fire.false) (sym c.in-Some.is ∙ c.shot_way.ensures.value) c.shot_box.ensures (sym c.in_default-target.is ∙ c.target.ensures)
