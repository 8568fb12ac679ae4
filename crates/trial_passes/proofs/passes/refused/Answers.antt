use Rattle.std.proofs.Common.{length}
use Rattle.ruled_words.specs.Passes.{fixed_in}
use Rattle.trial_passes.proofs.Trials.{free_again}
use Rattle.trial_passes.proofs.passes.refused.Goals as goal

pub returns-in-Err : goal.returns-in-Err
returns-in-Err g c = free_again (fixed_in g.A.Action.meaning c.args.table.now) (length c.args.table.now.rooms) c.args.table.now.table 1 c.args.pass.now c.try_run.new.pass _ c.in-Err.again c.requires.free c.in-Err.ensures.err
