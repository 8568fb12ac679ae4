use Rattle.std.proofs.Common.{refl, ap}
use Rattle.shot_rules.proofs.Nearest.{meeting_at_first}
use Rattle.shot_rules.proofs.meeting.target.Goals as goal

pub loop-r-init : goal.loop-r-init
loop-r-init c =
    meeting_at_first c.args.body.now c.args.way c.args.fixed.now _ (ap (λ hit. hit.steps) c.trace-steps.ensures.value) c.swept_in.ensures refl
