use Rattle.std.proofs.Common.{Bool, cond, ap, ◌∙◌, sym}
use Rattle.trigger_rules.specs.Touching.{walk_of}
use Rattle.shot_rules.specs.Shots.{after_hit}
use Rattle.shot_rules.proofs.firing.meet.Goals as goal

pub returns-then-stands : goal.returns-then-stands
returns-then-stands c ended =
    let w = walk_of c.args.me.now c.args.states.now c.args.got.now ended in
    c.hit.ensures ended ∙ sym (ap (λ (t : Bool). cond t (after_hit c.args.frame w c.args.r.now) w) (sym c.stands.ensures ∙ c.if-stands.true))
