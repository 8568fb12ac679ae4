use Rattle.std.proofs.Common.{◌∙◌, ap}
use Rattle.box_trace.specs.declared.hit.Hit.{Hit}
use Rattle.slide_move.specs.Slides.{leg_after, leg_of}
use Rattle.slide_move.proofs.leg.Leg.of.Goals as goal

pub returns : goal.returns
unfolding leg_of
returns c =
    c.after.ensures ∙ ap (λ (hit : Hit). leg_after hit c.args.vel c.args.way) c.trace.ensures.value
