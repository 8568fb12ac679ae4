use Rattle.box_trace.proofs.Ranges.{IsInRange-body_at}
use Rattle.shot_rules.proofs.meeting.swept_in.Goals as goal

pub shifted-requires : goal.shifted-requires
shifted-requires c =
    rw (c.shift_at.ensures, c.copied-start.ensures.value)
    (IsInRange-body_at c.args.body.now c.args.way c.args.steps c.copied-start.ensures.is_box.in_range c.requires.in_range c.requires.within)
