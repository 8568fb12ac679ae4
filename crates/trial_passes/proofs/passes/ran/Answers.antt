use Rattle.std.proofs.Common.{length}
use Rattle.ruled_words.specs.Passes.{fixed_in}
use Rattle.trial_passes.proofs.Trials.{rests_after}
use Rattle.trial_passes.proofs.passes.ran.Goals as goal

pub returns-in-Ok : goal.returns-in-Ok
returns-in-Ok g c = rests_after (fixed_in g.A.Action.meaning c.args.table.now) (length c.args.table.now.rooms) c.args.table.now.table 1 c.args.pass.now c.try_run.new.pass _ c.in-Ok.entry c.requires.free c.in-Ok.ensures.ok
