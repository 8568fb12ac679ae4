use Rattle.std.proofs.Common.{refl}
use Rattle.trial_outcomes.proofs.StayingLaws.{keepable}
use Rattle.core_trials.proofs.staying.StayingAction.region.Goals as goal

pub abs_box-requires : goal.abs_box-requires
abs_box-requires c = (keepable c.args.me.now c.args.me.now.kind refl c.requires.taken).bounds
