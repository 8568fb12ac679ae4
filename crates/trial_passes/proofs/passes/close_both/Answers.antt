use Rattle.std.proofs.Common.{length}
use Rattle.ruled_words.specs.Passes.{fixed_in}
use Rattle.trial_passes.proofs.Trials.{two_own, two_rest}
use Rattle.trial_passes.proofs.passes.close_both.Goals as goal

pub close-requires-clause-own : goal.close-requires-clause-own
close-requires-clause-own g c κs within =
    two_own (fixed_in g.A.Action.meaning c.args.table) (length c.args.table.rooms) c.args.table.table c.args.first c.args.second
    c.in_ok-passes.passes.items c.in_ok-passes.ensures c.requires.first c.requires.second

pub close-requires-clause-none : goal.close-requires-clause-none
close-requires-clause-none g c κs within =
    two_rest (fixed_in g.A.Action.meaning c.args.table) (length c.args.table.rooms) c.args.table.table c.args.first c.args.second
    c.in_ok-passes.passes.items c.in_ok-passes.ensures c.requires.first c.requires.second
